-- Records of a frame's parts, whose counters have two words, as the generic load and store have them. Assumes nothing.
use Rattle.std.proofs.Common.{◌≡◌, ℕ, List, ap, sym, ◌∙◌}
use Rattle.region.specs.Frame.{cells_of, nodes_of, threads_of}
use Rattle.region.specs.declared.part.Part.{Part}
use Rattle.region.specs.Record.{cell_at, cell_of, cell_size, cell_words, counter_size, empty_node, node_at, node_of, node_size, node_words, set_cell_at, set_node_at, zero_cell}
use Rattle.region.specs.Shared.{cell_in, load_entry, node_in, record_in, set_cell_in, set_node_in, set_record_in, set_thread_in, store_entry, thread_in}
use Rattle.region.specs.Thread.{idle_thread, set_thread_at, thread_at, thread_of, thread_size, thread_words}
use Rattle.region.specs.declared.frame.Frame.{Frame}
use Rattle.region.specs.declared.record.Cell.{Cell}
use Rattle.region.specs.declared.record.Node.{Node}
use Rattle.region.specs.declared.thread.Thread.{Thread}

module _ (f : Frame) (p : Part) (b : List ℕ) (n : ℕ) where
  pub node_loaded : (r : Node) → r ≡ record_in (λ ws. node_of counter_size ws 0) (node_size counter_size) empty_node p b n
      → p ≡ nodes_of f → f.width ≡ counter_size → r ≡ node_in f b n
  unfolding node_in node_at
  node_loaded r e ep wide = e ∙ ap (λ q. load_entry (node_at counter_size) empty_node q b n) ep ∙ ap (λ w. load_entry (node_at w) empty_node (nodes_of f) b n) (sym wide)

  pub node_stored : (v : Node) → p ≡ nodes_of f → f.width ≡ counter_size → set_record_in (node_words counter_size) p b n v ≡ set_node_in f b n v
  unfolding set_node_in set_node_at
  node_stored v ep wide = ap (λ q. store_entry (set_node_at counter_size) q b n v) ep ∙ ap (λ w. store_entry (set_node_at w) (nodes_of f) b n v) (sym wide)

  pub cell_loaded : (r : Cell) → r ≡ record_in (λ ws. cell_of ws 0) cell_size zero_cell p b n → p ≡ cells_of f → r ≡ cell_in f b n
  unfolding cell_in cell_at
  cell_loaded r e ep = e ∙ ap (λ q. load_entry cell_at zero_cell q b n) ep

  pub cell_stored : (v : Cell) → p ≡ cells_of f → set_record_in cell_words p b n v ≡ set_cell_in f b n v
  unfolding set_cell_in set_cell_at
  cell_stored v ep = ap (λ q. store_entry set_cell_at q b n v) ep

  pub thread_loaded : (r : Thread) → r ≡ record_in (thread_of counter_size) (thread_size counter_size) (idle_thread 0) p b n
      → p ≡ threads_of f → f.width ≡ counter_size → r ≡ thread_in f b n
  unfolding thread_in thread_at
  thread_loaded r e ep wide =
      e ∙ ap (λ q. load_entry (thread_at counter_size) (idle_thread 0) q b n) ep ∙ ap (λ w. load_entry (thread_at w) (idle_thread 0) (threads_of f) b n) (sym wide)

  pub thread_stored : (v : Thread) → p ≡ threads_of f → f.width ≡ counter_size → set_record_in (thread_words counter_size) p b n v ≡ set_thread_in f b n v
  unfolding set_thread_in set_thread_at
  thread_stored v ep wide = ap (λ q. store_entry (set_thread_at counter_size) q b n v) ep ∙ ap (λ w. store_entry (set_thread_at w) (threads_of f) b n v) (sym wide)
