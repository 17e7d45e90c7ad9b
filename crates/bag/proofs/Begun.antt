-- What a beginning, or a permission that is set, leaves on bytes in range under a frame, read as shared memory and threads' records. Assumes
-- nothing.
use Prim.Native.Nat.{ℕ}
use native.Mathlib.Decide.{ℕ_discrete}
use native.Mathlib.Omega.{arith}
use mathlib.Core.Path.{◌≡◌, sym, ap, ◌∙◌}
use mathlib.Core.List.{List}
use Rattle.words.specs.Word.{word, set_word}
use Rattle.region.specs.Pick.{upd}
use Rattle.region.specs.Shared.{Shared, set_cell, set_free, cell_in, set_cell_in, set_permission_in, thread_in, shared_in}
use Rattle.region.specs.Thread.{at_place, begun_put, with_permission}
use Rattle.region.specs.declared.frame.Frame.{Frame}
use Rattle.region.specs.declared.place.Place.{Place}
use Rattle.region.specs.declared.record.Cell.{Cell}
use Rattle.region.specs.declared.record.Item.{Item}
use Rattle.region.specs.declared.shape.Shape.{Shape}
use Rattle.region.specs.declared.thread.Thread.{Thread}
use Rattle.region.proofs.Picks.{upd_same, upd_other}
use Rattle.region.proofs.Views.{shared_set_cell, shared_set_free, shared_set_permission, shared_set_thread, threads_set_cell, threads_set_free, threads_set_permission, threads_set_thread}
use Rattle.readable.proofs.Laws.{GoodOfWidth}
use Rattle.readable.proofs.Stores.{KeepsOfWidth, cell_fits, few_cells}
use Rattle.begin.specs.Begin.{BeginsAt, accepted_put, accepted_take}
use Rattle.preserved.proofs.Proved.{PermitPassed, PutPassed, TakePassed, mine_good, moved_keeps, next_few, permit_least, permit_most, put_free, put_least, put_most, putter_good, record_fits, stored_keeps, take_least, take_most, taker_good}

module _ {width : ℕ} (f : Frame) (b : List ℕ) (g : GoodOfWidth width f b) where
  abbrev s : Shape
  s = f.shape

  abbrev m : Shared
  m = shared_in f b

  abbrev th : ℕ → Thread
  th = thread_in f b

  -- A take of either kind, which begins at the place z: the thread's place alone changes.
  pub take_shared : (t : ℕ) (z : Place) → shared_in f (accepted_take f b t z) ≡ m
  take_shared t z = shared_set_thread f b g.framed t (at_place (th t) z)

  pub take_threads : (t : ℕ) → TakePassed f b t → (z : Place) → BeginsAt z
      → thread_in f (accepted_take f b t z) ≡ upd th t (at_place (th t) z)
  take_threads t p z at =
      threads_set_thread f b g.framed t (at_place (th t) z) (take_least f b t p) (take_most f b t p)
      (record_fits f b g (at_place (th t) z) (taker_good f b t p g z at))

  -- A put: the first free cell becomes its own.
  module _ (t : ℕ) (i : Item) (p : PutPassed f b t i) where
    abbrev c : ℕ
    c = word b f.free

    abbrev next : ℕ
    next = (cell_in f b c).next

    abbrev cell : Cell
    cell = record { item = i; next = 0 }

    abbrev putter : Thread
    putter = begun_put (thread_in f b t) i c

    abbrev pub begun : Shared
    begun = set_cell (set_free m next) c cell

    -- the bytes in between
    moved : KeepsOfWidth width f b (set_word b f.free next)
    moved = moved_keeps f b t i p g

    stored : KeepsOfWidth width f (set_word b f.free next) (set_cell_in f (set_word b f.free next) c cell)
    stored = stored_keeps f b t i p g

    pub put_shared : shared_in f (accepted_put f b t i) ≡ begun
    unfolding accepted_put
    put_shared =
        shared_set_thread f (set_cell_in f (set_word b f.free next) c cell) stored.good.framed t _
        ∙ shared_set_cell f (set_word b f.free next) moved.good.framed c cell (omega (arith, put_free f b t i p)) g.free_most
        (cell_fits s g.range cell (mine_good f b t i p g))
        ∙ ap (λ y. set_cell y c cell)
        (shared_set_free f b g.framed next (omega (arith, next_few f b t i p g, few_cells s g.range)))

    pub put_threads : thread_in f (accepted_put f b t i) ≡ upd th t putter
    unfolding accepted_put
    put_threads =
        threads_set_thread f (set_cell_in f (set_word b f.free next) c cell) stored.good.framed t putter
        (put_least f b t i p) (put_most f b t i p) (record_fits f _ stored.good putter (putter_good f b t i p g))
        ∙ ap (λ y. upd y t putter)
        (threads_set_cell f (set_word b f.free next) moved.good.framed c cell ∙ threads_set_free f b g.framed next)

  -- A permission that is set: shared memory stays, and so does each thread's record but for its permission.
  module _ (k p : ℕ) (passed : PermitPassed f k p) where
    pub permit_shared : shared_in f (set_permission_in f b k p) ≡ m
    permit_shared = shared_set_permission f b g.framed k p (permit_least f k p passed) (permit_most f k p passed)

    pub permit_thread : (t : ℕ) → (n : ℕ) × (thread_in f (set_permission_in f b k p) t ≡ with_permission (th t) n)
    unfolding with_permission
    permit_thread t =
        let threads = threads_set_permission f b g.framed k p (permit_least f k p passed) (permit_most f k p passed)
        (omega (arith, passed.permission)) in
        let now = go (ℕ_discrete t k) in
        (now.0, ap (λ x. x t) threads ∙ now.1)
      where
        go : Dec (t ≡ k) → (n : ℕ) × (upd th k (with_permission (th k) p) t ≡ with_permission (th t) n)
        go (yes e) = (
          p,
          ap (upd th k (with_permission (th k) p)) e ∙ upd_same th k _ ∙ ap (λ x. with_permission (th x) p) (sym e),
        )
        go (no n) = ((th t).permission, upd_other th k t _ n)
