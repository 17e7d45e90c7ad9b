-- The six kinds sum to the accesses: a turn that makes an access stands at a place other than idle, which has one of the six kinds, and
-- counts once among them; one that makes none counts in none. Assumes nothing.
use Prim.Native.Nat.{ℕ, zero, suc, ◌+◌, ◌<◌}
use native.Mathlib.Omega.{arith}
use mathlib.Core.Path.{◌≡◌, refl, sym, ◌∙◌}
use mathlib.Core.Bool.{Bool, true, false, ◌&&◌, true≢false}
use mathlib.Core.List.{List, [], ◌∷◌}
use lib.Dec.{eqb}
use Rattle.region.specs.Pick.{pick}
use Rattle.region.specs.Shape.{between}
use Rattle.region.specs.Shared.{Shared, shared_in, thread_in}
use Rattle.region.specs.declared.answer.Answer.{Answer}
use Rattle.region.specs.declared.answer.Answer.TheVariants.{Moved, Idle as AnswerIdle, Inserted, Took, Empty, Refused, Withdrawn}
use Rattle.region.specs.declared.place.Place.{Place}
use Rattle.region.specs.declared.place.Place.TheVariants.{Idle, ReadDepth, ReadLeaf, ReadAncestor, GrowDepth, ReadTarget, InsertAtRoot, ReadParent, InsertBelow, ReadRoot, RemoveHead, MendReadNode, MendReadDepth, MendReadLeft, MendReadRight, MendSwap, MendClean, ListReadRoot, RemoveList, HandOut}
use Rattle.region.specs.declared.shape.Shape.{Shape}
use Rattle.region.specs.declared.thread.Thread.{Thread}
use Rattle.region.proofs.Picks.{pick_good}
use Rattle.access.specs.Plan.{accesses_of, plan, refused}
use Rattle.access.specs.declared.plan.Plan.{Plan}
use Rattle.readable.specs.Readable.{frame_in}
use Rattle.permission.specs.Withdraw.{permitted, withdrawal}
use Rattle.machine.specs.Turn.{decide, decide_at, turn_plan}
use Rattle.script.specs.Script.{laid_region}
use Rattle.kinds.specs.Kind.{access_kind, makes_access}
use Rattle.figures.specs.Scripts.{Script}
use Rattle.figures.specs.Turns.{TurnMade, all_turns, turn_made, turns_in}
use Rattle.figures.specs.Figures.{accesses, figures, is_of_kind}
use Rattle.figures.specs.Theorems.{KindsSumToAccesses, accesses_made}
use Rattle.figures.proofs.Every.{Every, none, and, every_append, every_group, every_turn}

-- A turn that makes an access stands at a place with one of the six kinds.
record Kinded (p : Place) (q : Plan) : Type 0 where
  kind : makes_access q.answer ≡ true → access_kind p < 6

no_access : {p : Place} {q : Plan} → makes_access q.answer ≡ false → Kinded p q
no_access h = record { kind = λ e. absurd (true≢false (sym e ∙ h)) }

of_place : {p : Place} {q : Plan} → access_kind p < 6 → Kinded p q
of_place h = record { kind = λ e. h }

at_place : (s : Shape) (m : Shared) (t : Thread) (c : ℕ) (p : Place) → Kinded p (decide_at s m t c p)
unfolding plan makes_access
at_place s m t c Idle = no_access refl
at_place s m t c ReadDepth = of_place (omega arith)
at_place s m t c ReadLeaf = of_place (omega arith)
at_place s m t c ReadAncestor = of_place (omega arith)
at_place s m t c GrowDepth = of_place (omega arith)
at_place s m t c ReadTarget = of_place (omega arith)
at_place s m t c InsertAtRoot = of_place (omega arith)
at_place s m t c ReadParent = of_place (omega arith)
at_place s m t c InsertBelow = of_place (omega arith)
at_place s m t c ReadRoot = of_place (omega arith)
at_place s m t c RemoveHead = of_place (omega arith)
at_place s m t c (MendReadNode w) = of_place (omega arith)
at_place s m t c (MendReadDepth w) = of_place (omega arith)
at_place s m t c (MendReadLeft w) = of_place (omega arith)
at_place s m t c (MendReadRight w) = of_place (omega arith)
at_place s m t c (MendSwap w) = of_place (omega arith)
at_place s m t c (MendClean w) = of_place (omega arith)
at_place s m t c ListReadRoot = of_place (omega arith)
at_place s m t c RemoveList = of_place (omega arith)
at_place s m t c HandOut = of_place (omega arith)

permits : (p : Place) (t : Thread) (q : Plan) → Kinded p q → Kinded p (permitted t q)
unfolding permitted withdrawal plan refused makes_access
permits p t q h =
    pick_good (Kinded p) _
    (λ e.
    pick_good (Kinded p) _
    (λ e. pick_good (Kinded p) _ (λ e. no_access refl) (λ e. no_access refl))
    (λ e. no_access refl))
    (λ e. h)

decided : (s : Shape) (m : Shared) (t : Thread) (c : ℕ) → Kinded t.place (decide s m t c)
unfolding decide
decided s m t c = permits t.place t (decide_at s m t c t.place) (at_place s m t c t.place)

turn_kinded : (b : List ℕ) (t c : ℕ) → Kinded (turn_made b t c).place (turn_made b t c).plan
unfolding turn_made turn_plan plan refused makes_access
turn_kinded b t c =
    pick_good (Kinded (turn_made b t c).place) (between 1 t (frame_in b).shape.threads)
    (λ e. decided (frame_in b).shape (shared_in (frame_in b) b) (thread_in (frame_in b) b t) c)
    (λ e. no_access refl)

-- It counts once among the six kinds; a turn that makes no access, never.
abbrev passed : (ℕ → Bool) → ℕ
passed test =
    pick (test 0) 1 0
    + (pick (test 1) 1 0 + (pick (test 2) 1 0 + (pick (test 3) 1 0 + (pick (test 4) 1 0 + (pick (test 5) 1 0 + 0)))))

once : (n : ℕ) → n < 6 → passed (eqb n) ≡ 1
unfolding pick
once zero h = refl
once (suc zero) h = refl
once (suc (suc zero)) h = refl
once (suc (suc (suc zero))) h = refl
once (suc (suc (suc (suc zero)))) h = refl
once (suc (suc (suc (suc (suc zero))))) h = refl
once (suc (suc (suc (suc (suc (suc n)))))) h = absurd (omega arith)

once_if : (m : Bool) (n : ℕ) → (m ≡ true → n < 6) → passed (λ k. m && eqb n k) ≡ pick m 1 0
unfolding pick
once_if true n h = once n (h refl)
once_if false n h = refl

made : (a : Answer) → pick (makes_access a) 1 0 ≡ accesses_of a
unfolding makes_access pick
made Moved = refl
made AnswerIdle = refl
made Inserted = refl
made (Took i) = refl
made Empty = refl
made (Refused n) = refl
made Withdrawn = refl

turn_counts : (p : Place) (q : Plan) → Kinded p q → passed (λ k. is_of_kind k p q) ≡ accesses_of q.answer
unfolding is_of_kind
turn_counts p q h = once_if (makes_access q.answer) (access_kind p) h.kind ∙ made q.answer

-- So over turns.
abbrev KindedTurn : TurnMade → Type 0
KindedTurn v = Kinded v.place v.plan

kinds_sum : {vs : List TurnMade} → Every KindedTurn vs → accesses (figures vs) ≡ accesses_made vs
unfolding figures accesses_made
kinds_sum none = refl
kinds_sum (and {x = v} {xs = vs} h hs) = omega (arith, turn_counts v.place v.plan h, kinds_sum hs)

script_turns : (x : Script) → Every KindedTurn (turns_in x)
unfolding turns_in
script_turns x =
    every_turn KindedTurn (λ b. Unit {0}) (λ b r what t. tt) (λ b r t c. turn_kinded b t c) x.lines (laid_region x.setup) tt

all_turns_lem : (xs : List Script) → Every KindedTurn (all_turns xs)
unfolding all_turns
all_turns_lem [] = none
all_turns_lem (x ∷ xs) = every_append (script_turns x) (all_turns_lem xs)

pub kinds_sum_to_accesses : KindsSumToAccesses
kinds_sum_to_accesses = (λ x t. kinds_sum (every_group t (script_turns x)), λ xs. kinds_sum (all_turns_lem xs))
