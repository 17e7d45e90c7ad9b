-- All cells of a region are accounted for, and a put that nothing else refuses is refused 10 exactly when tree, begun puts and items in hand
-- fill all: the account of cells on the bytes. Assumes nothing.
use Prim.Native.Nat.{ℕ}
use native.Mathlib.Decide.{ℕ_discrete}
use native.Mathlib.Omega.{arith}
use mathlib.Core.Path.{◌≡◌, refl, ap, ◌∙◌}
use mathlib.Core.Bool.{Bool, true, false, not}
use mathlib.Core.List.{List}
use borrow.Author.Tests.{eq-eqb, ne_eqb}
use lib.Dec.{eqb}
use Rattle.words.specs.Word.{word}
use Rattle.region.specs.Refusal.{code_of, done, granted, number_of, ◌unless◌otherwise◌}
use Rattle.region.specs.declared.refusal.Refusal.TheVariants.{NoFreeCell}
use Rattle.region.specs.Frame.{frame_of_width}
use Rattle.region.specs.Pick.{pick}
use Rattle.region.specs.Shared.{shared_in, thread_in}
use Rattle.region.specs.declared.record.Item.{Item}
use Rattle.readable.specs.Readable.{frame_in, shape_in}
use Rattle.begin.specs.Begin.{has_free_cell, put_refusal, put_refusal_in}
use Rattle.theory.specs.Ledger.{Ledger}
use Rattle.theory.proofs.Account.{all_cells, full_without, not_full_with}
use Rattle.theory.proofs.Steps.{Invariant}
use Rattle.bag.specs.Account.{tree_cells, begun_puts, free_cells, hand_cells, AllCellsAccounted, Full, NoneFreeWhenFull, NothingElseRefuses, RefusedWhenFull, PutsRefusedWhenFull}

-- where nothing else refuses a put, the first free cell decides
cell_decides : (b : List ℕ) (t : ℕ) (i : Item) → NothingElseRefuses b t i
    → put_refusal b t i ≡ pick (not (eqb (word b (frame_in b).free) 0)) done (number_of NoFreeCell)
unfolding put_refusal put_refusal_in has_free_cell frame_of_width pick
cell_decides b t i a = rw (a.region, a.thread, a.item, a.permitted, a.idle) (go (not (eqb (word b (frame_in b).free) 0)))
  where
    go : (q : Bool) → code_of (NoFreeCell unless q otherwise granted) ≡ pick q done (number_of NoFreeCell)
    go true = refl
    go false = refl

-- Both, of every region of one queue of which the invariant holds.
module _ (b : List ℕ) (l : Ledger) (here : Invariant (shape_in b) (shared_in (frame_in b) b) (thread_in (frame_in b) b) l (shape_in b).cells) where
  pub all_cells_accounted : AllCellsAccounted b
  unfolding tree_cells begun_puts hand_cells free_cells frame_of_width
  all_cells_accounted = all_cells (shape_in b) (shared_in (frame_in b) b) (thread_in (frame_in b) b) l here

  -- no cell is free exactly when the others fill all
  pub none_free_when_full : NoneFreeWhenFull b
  unfolding tree_cells begun_puts hand_cells frame_of_width
  none_free_when_full =
      record {
        none_full = full_without (shape_in b) (shared_in (frame_in b) b) (thread_in (frame_in b) b) l here;
        full_none = λ full. go full (ℕ_discrete (shared_in (frame_in b) b).free 0);
      }
    where
      go : Full b → Dec ((shared_in (frame_in b) b).free ≡ 0) → (shared_in (frame_in b) b).free ≡ 0
      go full (yes e) = e
      go full (no n) =
          absurd (not_full_with (shape_in b) (shared_in (frame_in b) b) (thread_in (frame_in b) b) l here (omega arith) full)

  pub puts_refused_when_full : PutsRefusedWhenFull b
  unfolding tree_cells begun_puts hand_cells shared_in frame_of_width pick
  puts_refused_when_full t i a = go (ℕ_discrete first 0)
    where
      first : ℕ
      first = word b (frame_in b).free

      decided : (q : Bool) → eqb first 0 ≡ q → put_refusal b t i ≡ pick (not q) done (number_of NoFreeCell)
      decided q e = cell_decides b t i a ∙ ap (λ x. pick (not x) done (number_of NoFreeCell)) e

      go : Dec (first ≡ 0) → RefusedWhenFull b t i
      go (yes e) =
          let full = full_without (shape_in b) (shared_in (frame_in b) b) (thread_in (frame_in b) b) l here e in
          record {
            refused_full = λ r. full;
            full_refused = λ f. decided true (eq-eqb first 0 e);
            else_done = λ n. absurd (n full);
          }
      go (no n) =
          let not_full = not_full_with (shape_in b) (shared_in (frame_in b) b) (thread_in (frame_in b) b) l here (omega arith) in
          let begins = decided false (ne_eqb first 0 n) in
          record {
            refused_full = λ r. absurd (omega (arith, r, begins));
            full_refused = λ f. absurd (not_full f);
            else_done = λ f. begins;
          }
