-- An effect in range keeps the bytes under a frame in range. Assumes nothing.
use Prim.Native.Nat.{ℕ, ◌^◌, ◌<◌}
use native.Mathlib.Omega.{arith}
use mathlib.Core.Path.{sym, subst}
use mathlib.Core.List.{List}
use lib.ListN.{length}
use Rattle.words.specs.Word.{word}
use Rattle.region.specs.Pick.{upd}
use Rattle.region.specs.Record.{zero_item}
use Rattle.region.specs.Inner.{Framed, InRange}
use Rattle.region.specs.Shared.{Shared, cell_in, shared_in}
use Rattle.region.specs.declared.frame.Frame.{Frame}
use Rattle.region.specs.declared.record.Cell.{Cell}
use Rattle.region.specs.declared.record.Node.{Node}
use Rattle.region.specs.declared.shape.Shape.{Shape}
use Rattle.region.proofs.Picks.{upd_good}
use Rattle.region.proofs.Views.{threads_outside}
use Rattle.access.specs.Effect.{effect_shared, effect_bytes}
use Rattle.access.specs.declared.effect.Effect.{Effect}
use Rattle.access.specs.declared.effect.Effect.TheVariants.{Nothing, Grow, Push, Pop, Exchange, Clean, Detach, Free}
use Rattle.access.proofs.EffectLaws.{EffectFits, effect_shared_lem, effect_word, length_effect}
use Rattle.readable.proofs.Laws.{GoodOfWidth}
use Rattle.readable.proofs.Stores.{CellGood, KeepsOfWidth, NodeGood, SharedGood, cell_fits, few_cells, good_shared, make_good, node_fits, threads_pass}
use Rattle.preserved.proofs.PlansGood.{EffectGood, NodeIn, some_nodes}

module _ {width : ℕ} (s : Shape) (m : Shared) (g : SharedGood width s m) where
  set_node : (n : ℕ) (v : Node) → NodeGood width s.cells v → (k : ℕ) → NodeGood width s.cells (upd m.node n v k)
  set_node n v h = upd_good (NodeGood width s.cells) m.node n v g.node h

  pub set_cell : (c : ℕ) (v : Cell) → CellGood s.cells v → (k : ℕ) → CellGood s.cells (upd m.cell c v k)
  set_cell c v h = upd_good (CellGood s.cells) m.cell c v g.cell h

  freed_good : CellGood s.cells (record { item = zero_item; next = m.free })
  freed_good = record { key = omega arith; tag = omega arith; next = g.free }

  pub effect_good : (e : Effect) → EffectGood width s e → SharedGood width s (effect_shared m e)
  unfolding effect_shared
  effect_good Nothing h = g
  effect_good (Grow d) h = search
  effect_good (Push n v c x) h =
      let linked : CellGood s.cells (record { item = (m.cell c).item; next = x }) =
      record { key = (g.cell c).key; tag = (g.cell c).tag; next = h.3 } in
      search (set_node n v h.2, set_cell c _ linked)
  effect_good (Pop v c) h = search (set_node 1 v h.1, set_cell c _ freed_good)
  effect_good (Exchange n v k w) h = search (upd_good (NodeGood width s.cells) (upd m.node n v) k w (set_node n v h.2) h.3)
  effect_good (Clean n v) h = search (set_node n v h.1)
  effect_good (Detach v) h = search (set_node 1 v h)
  effect_good (Free c) h = search (set_cell c _ freed_good)

-- An effect in range fits the words that it stores.
module _ (f : Frame) (r : InRange f.shape) (b : List ℕ) (g : SharedGood f.width f.shape (shared_in f b)) where
  root_in : NodeIn f.shape 1
  root_in = (omega arith, some_nodes f.shape r (shared_in f b) g)

  free_fits : word b f.free < 2 ^ 32
  unfolding shared_in
  free_fits = omega (arith, g.free, few_cells f.shape r)

  pub fits_of : (e : Effect) → EffectGood f.width f.shape e → EffectFits f b e
  unfolding shared_in
  fits_of Nothing h = tt
  fits_of (Grow d) h = omega (arith, h.1, r.depth_most)
  fits_of (Push n v c x) h = (
    h.0,
    h.1,
    node_fits f.shape r v h.2,
    cell_fits f.shape r (record { item = (cell_in f b c).item; next = x })
        (record { key = (g.cell c).key; tag = (g.cell c).tag; next = h.3 }),
  )
  fits_of (Pop v c) h = (root_in, h.0, node_fits f.shape r v h.1, free_fits)
  fits_of (Exchange n v k w) h = (h.0, h.1, node_fits f.shape r v h.2, node_fits f.shape r w h.3)
  fits_of (Clean n v) h = (h.0, node_fits f.shape r v h.1)
  fits_of (Detach v) h = (root_in, node_fits f.shape r v h)
  fits_of (Free c) h = (h, free_fits)

-- Bytes in range stay in range, and are read as the effect says.
module _ {width : ℕ} (f : Frame) (b : List ℕ) (g : GoodOfWidth width f b) (e : Effect) (h : EffectGood width f.shape e) where
  pub effect_fits : EffectFits f b e
  effect_fits =
      fits_of f g.range b (subst (λ w. SharedGood w f.shape (shared_in f b)) (sym g.width) (good_shared f b g)) e
      (subst (λ w. EffectGood w f.shape e) (sym g.width) h)

  pub keeps_effect : KeepsOfWidth width f b (effect_bytes f b e)
  keeps_effect =
      let m = good_shared f b g in
      let long = length_effect f b e in
      record {
        good =
            make_good f (effect_bytes f b e) g.width g.range (subst (Framed f) (sym long) g.framed)
            (subst (SharedGood width f.shape)
            (sym (effect_shared_lem f b g.framed (few_cells f.shape g.range) e effect_fits))
            (effect_good f.shape (shared_in f b) m e h))
            (threads_pass f b (effect_bytes f b e) g λ j lo hi.
            effect_word f j (threads_outside f (length b) g.framed j lo hi) b g.framed e);
        long = long;
        outside = λ j o. effect_word f j o.shared b g.framed e;
      }
