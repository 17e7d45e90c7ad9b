-- What holds of every element of a list: of a list joined of two, of the turns of one thread, and, where a property of regions is kept by
-- every line's call and gives it to a turn, of the turns of a script's lines. Assumes nothing.
use Prim.Native.Nat.{ℕ}
use mathlib.Core.List.{List, [], ◌∷◌, ◌++◌}
use lib.Dec.{eqb}
use Rattle.region.proofs.Picks.{pick_good}
use Rattle.script.specs.Script.{call_bytes}
use Rattle.script.specs.declared.reading.ScriptLine.{ScriptLine}
use Rattle.script.specs.declared.reading.What.{What}
use Rattle.script.specs.declared.reading.What.TheVariants.{Put, Take, TakeList, Permit, Turn}
use Rattle.figures.specs.Turns.{TurnMade, turn_by, turn_made, turns_of}
use Rattle.figures.specs.Figures.{of_thread}

pub data Every {A : Type 0} (P : A → Type 0) : List A → Type 0 where
  none : Every P []
  and : {x : A} {xs : List A} → P x → Every P xs → Every P (x ∷ xs)

pub every_append : {A : Type 0} {P : A → Type 0} {xs ys : List A} → Every P xs → Every P ys → Every P (xs ++ ys)
every_append none h = h
every_append (and p ps) h = and p (every_append ps h)

pub every_group : {P : TurnMade → Type 0} {vs : List TurnMade} (t : ℕ) → Every P vs → Every P (of_thread t vs)
unfolding of_thread
every_group t none = none
every_group {P} t (and {x = v} p ps) =
    pick_good (Every P) (eqb v.thread t) (λ e. and p (every_group t ps)) (λ e. every_group t ps)

module _ (P : TurnMade → Type 0) (R : List ℕ → Type 0) (keeps : (b : List ℕ) → R b → (what : What) (t : ℕ) → R (call_bytes b what t))
    (gives : (b : List ℕ) → R b → (t c : ℕ) → P (turn_made b t c)) where
  every_by : (b : List ℕ) → R b → (what : What) (t : ℕ) → Every P (turn_by b what t)
  every_by b r (Put i) t = none
  every_by b r Take t = none
  every_by b r TakeList t = none
  every_by b r (Permit p) t = none
  every_by b r (Turn c) t = and (gives b r t c) none

  pub every_turn : (ls : List ScriptLine) (b : List ℕ) → R b → Every P (turns_of ls b)
  unfolding turns_of
  every_turn [] b r = none
  every_turn (l ∷ ls) b r =
      every_append (every_by b r l.what l.thread)
      (every_turn ls (call_bytes b l.what l.thread) (keeps b r l.what l.thread))
