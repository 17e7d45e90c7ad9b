-- What a put costs at the greatest depth (document 02, request 8): "a put begun at depth D, with nobody else moving, its permission kept and no
-- turn refused 11, is inserted within 2^D + 7 accesses", whatever the choices and the dirty nodes. Proved in proofs/PutCost.antt.
use Rattle.std.specs.Prelude.{ℕ, ◌+◌, ◌^◌, ◌≤◌, ◌≡◌, List}
use Rattle.region.specs.Refusal.{done}
use Rattle.region.specs.Shared.{shared_in}
use Rattle.region.specs.declared.answer.Answer.TheVariants.{Inserted}
use Rattle.region.specs.declared.record.Item.{Item}
use Rattle.readable.specs.Readable.{frame_in, shape_in}
use Rattle.permission.specs.Grants.{may_put}
use Rattle.begin.specs.Begin.{put_bytes, put_refusal}
use Rattle.bag.specs.Alone.{Alone, Between, EndsAt, Step, steps_of}

-- thread t's turns after it has begun a put of item i on the region b
abbrev pub put_steps : List ℕ → ℕ → Item → List Between → List Step
put_steps b t i xs = steps_of (frame_in b) (put_bytes b t i) t xs

-- the put is begun at depth D, and goes on alone with at least n turns
pub record PutsAlone (b : List ℕ) (t : ℕ) (i : Item) (xs : List Between) (n : ℕ) : Type 0 where
  pub begun : put_refusal b t i ≡ done
  pub deepest : (shared_in (frame_in b) b).depth ≡ (shape_in b).depth
  pub alone : Alone may_put (frame_in b) (put_bytes b t i) t xs n

-- "inserted within 2^D + 7 accesses": its turns answer moved up to the last of them, which answers inserted
abbrev pub PutsEnd : List ℕ → Type 0
PutsEnd b =
    (t : ℕ) (i : Item) (xs : List Between) → PutsAlone b t i xs (2 ^ (shape_in b).depth + 7)
    → (n : ℕ) × (n ≤ 2 ^ (shape_in b).depth + 7) × EndsAt (λ x. x.answer ≡ Inserted) n (put_steps b t i xs)
