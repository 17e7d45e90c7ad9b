-- Each call on two regions that carry the same values: it is refused by both alike, and leaves them alike. Assumes nothing.
use Prim.Native.Nat.{ℕ}
use native.Mathlib.Omega.{arith}
use mathlib.Core.Path.{◌≡◌, refl, sym, ap, subst, subst₂, ◌∙◌}
use mathlib.Core.Bool.{Bool, true, false, not}
use mathlib.Core.List.{List}
use borrow.Author.Tests.{eqb-true}
use lib.Dec.{eqb}
use Rattle.region.specs.Refusal.{Checked, code_of, done, granted, ◌unless◌otherwise◌}
use Rattle.region.specs.declared.refusal.Refusal.TheVariants.{BadThread, BadItem, NotPermitted, ThreadBusy, NoFreeCell, Unreadable}
use Rattle.region.specs.Frame.{frame_of_width}
use Rattle.region.specs.Pick.{pick, upd}
use Rattle.region.specs.Record.{counter_size, is_item, old_counter_size}
use Rattle.region.specs.Shape.{between}
use Rattle.region.specs.Shared.{set_cell, set_free, set_permission_in, shared_in}
use Rattle.region.specs.Thread.{at_place, begun_put, is_idle, with_permission}
use Rattle.region.specs.declared.frame.Frame.{Frame}
use Rattle.region.specs.declared.place.Place.{Place}
use Rattle.region.specs.declared.place.Place.TheVariants.{ReadRoot, ListReadRoot}
use Rattle.region.specs.declared.record.Item.{Item}
use Rattle.region.specs.declared.shape.Shape.{Shape}
use Rattle.region.proofs.Views.{threads_set_permission}
use Rattle.readable.specs.Readable.{readable_of_width, shape_in}
use Rattle.readable.proofs.Stores.{keeps_set_permission}
use Rattle.permission.specs.Grants.{may_put, may_take}
use Rattle.permission.specs.Permit.{permit_check_in, permit_refusal_in}
use Rattle.begin.specs.Begin.{BeginsAt, accepted_put, accepted_take, has_free_cell, one_item, put_check_in, put_refusal_in, take_check_in, take_refusal_in, whole_list}
use Rattle.preserved.proofs.Proved.{accepted_put_keeps, accepted_take_keeps, permit_least, permit_most, permit_passed, put_passed, take_passed}
use Rattle.bag.proofs.Begun.{permit_shared, put_shared, put_threads, take_shared, take_threads}
use Rattle.converted.specs.Forms.{new_form, old_form}
use Rattle.converted.specs.Replies.{QueueCall, put, take, list, permit, run, check, accepted_by, after_by, refusal_by}
use Rattle.converted.proofs.Alike.{Alike, new_good, new_frame, old_good, old_frame, still_alike}

-- every call but a run
abbrev pub NotRun : QueueCall → Type 0
NotRun (put t i) = Unit
NotRun (take t) = Unit
NotRun (list t) = Unit
NotRun (permit t p) = Unit
NotRun (run schedule limit answers) = ⊥
NotRun check = Unit

module _ {s : Shape} {b b' : List ℕ} (a : Alike s b b') where
  abbrev f : Frame
  f = old_frame s

  abbrev f' : Frame
  f' = new_frame s

  -- Refusals are of the values alone.
  put_checked : (t : ℕ) (i : Item) → put_check_in f' b' t i ≡ put_check_in f b t i
  unfolding has_free_cell shared_in frame_of_width
  put_checked t i = λ j.
      BadThread unless between 1 t s.threads
      otherwise BadItem unless is_item i
      otherwise NotPermitted unless may_put (a.threads j t)
      otherwise ThreadBusy unless is_idle (a.threads j t)
      otherwise NoFreeCell unless not (eqb (a.shared j).free 0)
      otherwise granted

  put_refusal : (t : ℕ) (i : Item) → put_refusal_in f' b' t i ≡ put_refusal_in f b t i
  unfolding put_refusal_in
  put_refusal t i = ap code_of (put_checked t i)

  take_checked : (t : ℕ) → take_check_in f' b' t ≡ take_check_in f b t
  unfolding frame_of_width
  take_checked t = λ j.
      BadThread unless between 1 t s.threads
      otherwise NotPermitted unless may_take (a.threads j t)
      otherwise ThreadBusy unless is_idle (a.threads j t)
      otherwise granted

  take_refusal : (t : ℕ) → take_refusal_in f' b' t ≡ take_refusal_in f b t
  unfolding take_refusal_in
  take_refusal t = ap code_of (take_checked t)

  permit_checked : (t p : ℕ) → permit_check_in f' t p ≡ permit_check_in f t p
  unfolding frame_of_width
  permit_checked t p = refl

  permit_refusal : (t p : ℕ) → permit_refusal_in f' t p ≡ permit_refusal_in f t p
  unfolding permit_refusal_in frame_of_width
  permit_refusal t p = refl

  -- of a whole region: both can be read
  whole : (x y : Checked) → x ≡ y → code_of (Unreadable unless readable_of_width counter_size b' otherwise x)
      ≡ code_of (Unreadable unless readable_of_width old_counter_size b otherwise y)
  unfolding pick
  whole x y e = rw (a.old, a.new) (ap code_of e)

  -- through the frames that the regions' first words give
  given : (g : Frame → List ℕ → Checked) → g f' b' ≡ g f b → g (new_frame (shape_in b')) b' ≡ g (old_frame (shape_in b)) b
  given g e = ap (λ x. g (new_frame x) b') a.new_shape ∙ e ∙ sym (ap (λ x. g (old_frame x) b) a.old_shape)

  pub refusal_same : (c : QueueCall) → refusal_by new_form b' c ≡ refusal_by old_form b c
  unfolding refusal_by
  refusal_same (put t i) = whole _ _ (given (λ g l. put_check_in g l t i) (put_checked t i))
  refusal_same (take t) = whole _ _ (given (λ g l. take_check_in g l t) (take_checked t))
  refusal_same (list t) = whole _ _ (given (λ g l. take_check_in g l t) (take_checked t))
  refusal_same (permit t p) = whole _ _ (given (λ g l. permit_check_in g t p) (permit_checked t p))
  refusal_same (run schedule limit answers) = whole _ _ refl
  refusal_same check = whole _ _ refl

  -- What is not refused leaves both alike.
  put_alike : (t : ℕ) (i : Item) → put_refusal_in f b t i ≡ done → Alike s (accepted_put f b t i) (accepted_put f' b' t i)
  unfolding shared_in
  put_alike t i e =
      let g = old_good a in
      let g' = new_good a in
      let passed = put_passed f b t i e in
      let passed' = put_passed f' b' t i (put_refusal t i ∙ e) in
      still_alike a (accepted_put f b t i) (accepted_put f' b' t i) (accepted_put_keeps f b t i passed g) (accepted_put_keeps f' b' t i passed' g')
      (put_shared f' b' g' t i passed'
      ∙ (λ j. set_cell (set_free (a.shared j) ((a.shared j).cell (a.shared j).free).next) (a.shared j).free (record { item = i; next = 0 }))
      ∙ sym (put_shared f b g t i passed))
      (put_threads f' b' g' t i passed'
      ∙ (λ j. upd (a.threads j) t (begun_put (a.threads j t) i (a.shared j).free))
      ∙ sym (put_threads f b g t i passed))

  take_alike : (t : ℕ) (p : Place) → BeginsAt p → take_refusal_in f b t ≡ done → Alike s (accepted_take f b t p) (accepted_take f' b' t p)
  take_alike t p at e =
      let g = old_good a in
      let g' = new_good a in
      let passed = take_passed f b t e in
      let passed' = take_passed f' b' t (take_refusal t ∙ e) in
      still_alike a (accepted_take f b t p) (accepted_take f' b' t p) (accepted_take_keeps f b t passed g p at) (accepted_take_keeps f' b' t passed' g' p at)
      (take_shared f' b' g' t p ∙ a.shared ∙ sym (take_shared f b g t p))
      (take_threads f' b' g' t passed' p at
      ∙ (λ j. upd (a.threads j) t (at_place (a.threads j t) p))
      ∙ sym (take_threads f b g t passed p at))

  permit_alike : (t p : ℕ) → permit_refusal_in f t p ≡ done → Alike s (set_permission_in f b t p) (set_permission_in f' b' t p)
  permit_alike t p e =
      let g = old_good a in
      let g' = new_good a in
      let passed = permit_passed f t p e in
      let passed' = permit_passed f' t p (permit_refusal t p ∙ e) in
      let l = permit_least f t p passed in
      let u = permit_most f t p passed in
      let l' = permit_least f' t p passed' in
      let u' = permit_most f' t p passed' in
      still_alike a (set_permission_in f b t p) (set_permission_in f' b' t p) (keeps_set_permission f b g t p l u passed.permission)
      (keeps_set_permission f' b' g' t p l' u' passed'.permission)
      (permit_shared f' b' g' t p passed' ∙ a.shared ∙ sym (permit_shared f b g t p passed))
      (threads_set_permission f' b' g'.framed t p l' u' (omega (arith, passed'.permission))
      ∙ (λ j. upd (a.threads j) t (with_permission (a.threads j t) p))
      ∙ sym (threads_set_permission f b g.framed t p l u (omega (arith, passed.permission))))

  -- where a call is not refused, the refusals behind the first do not apply
  under : (x : Checked) → code_of (Unreadable unless readable_of_width old_counter_size b otherwise x) ≡ done → code_of x ≡ done
  unfolding pick
  under x e = rw a.old at e

  shaped : (g : Frame → List ℕ → List ℕ) → Alike s (g f b) (g f' b') → Alike s (g (old_frame (shape_in b)) b) (g (new_frame (shape_in b')) b')
  shaped g h =
      subst₂ (λ x y. Alike s (g (old_frame x) b) (g (new_frame y) b')) (sym a.old_shape) (sym a.new_shape) h

  -- the old region's frame in a refusal
  here : (g : Frame → ℕ) → g (old_frame (shape_in b)) ≡ done → g f ≡ done
  here g e = sym (ap (λ x. g (old_frame x)) a.old_shape) ∙ e

  pub accepted_alike : (c : QueueCall) → NotRun c → refusal_by old_form b c ≡ done → Alike s (accepted_by old_form b c) (accepted_by new_form b' c)
  unfolding refusal_by accepted_by put_refusal_in take_refusal_in permit_refusal_in
  accepted_alike (put t i) n e = shaped (λ g l. accepted_put g l t i) (put_alike t i (here (λ g. put_refusal_in g b t i) (under _ e)))
  accepted_alike (take t) n e =
      shaped (λ g l. accepted_take g l t ReadRoot) (take_alike t ReadRoot one_item (here (λ g. take_refusal_in g b t) (under _ e)))
  accepted_alike (list t) n e =
      shaped (λ g l. accepted_take g l t ListReadRoot) (take_alike t ListReadRoot whole_list (here (λ g. take_refusal_in g b t) (under _ e)))
  accepted_alike (permit t p) n e = shaped (λ g l. set_permission_in g l t p) (permit_alike t p (here (λ g. permit_refusal_in g t p) (under _ e)))
  accepted_alike (run schedule limit answers) n e = absurd n
  accepted_alike check n e = a

  pub after_alike : (c : QueueCall) → (refusal_by old_form b c ≡ done → Alike s (accepted_by old_form b c) (accepted_by new_form b' c))
      → Alike s (after_by old_form b c) (after_by new_form b' c)
  unfolding after_by pick
  after_alike c h = subst (λ n. Alike s (after_by old_form b c) (pick (eqb n done) (accepted_by new_form b' c) b')) (sym (refusal_same c)) (go (eqb (refusal_by old_form b c) done) refl)
    where
      go : (q : Bool) → eqb (refusal_by old_form b c) done ≡ q → Alike s (pick q (accepted_by old_form b c) b) (pick q (accepted_by new_form b' c) b')
      go true e = h (eqb-true (refusal_by old_form b c) done e)
      go false e = a
