-- Setting a thread's permission, be it busy or not: under a frame, and on a whole region that holds one queue.
use Rattle.std.specs.Prelude.{ℕ, ◌≡◌, List, Result, Ok, leb, eqb}
use Rattle.region.specs.Refusal.{Checked, granted, code_of, done, ◌unless◌otherwise◌}
use Rattle.region.specs.declared.refusal.Refusal.{Refusal}
use Rattle.region.specs.declared.refusal.Refusal.TheVariants.{BadShape, BadThread, Unreadable}
use Rattle.region.specs.Frame.{frame_of_width}
use Rattle.region.specs.Pick.{pick}
use Rattle.region.specs.Shape.{between}
use Rattle.region.specs.Shared.{set_permission_in}
use Rattle.region.specs.Thread.{greatest_permission}
use Rattle.region.specs.declared.frame.Frame.{Frame}
use Rattle.readable.specs.Readable.{frame_in, readable}

-- what the call is refused for, under a frame: a thread that is not there, then a permission above 3
abbrev pub permit_check_in : Frame → ℕ → ℕ → Checked
permit_check_in f t p =
    BadThread unless between 1 t f.shape.threads
    otherwise BadShape unless leb p greatest_permission
    otherwise granted

unfoldable pub permit_refusal_in : Frame → ℕ → ℕ → ℕ
permit_refusal_in f t p = code_of (permit_check_in f t p)

-- on a whole region, which has to be readable first
abbrev pub permit_check : List ℕ → ℕ → ℕ → Checked
permit_check b t p = Unreadable unless readable b otherwise permit_check_in (frame_in b) t p

unfoldable pub permit_refusal : List ℕ → ℕ → ℕ → ℕ
unfolding permit_refusal_in frame_of_width
permit_refusal b t p = code_of (permit_check b t p)

-- what the call leaves: the thread's permission is all that changes, and a refused call leaves the region alone
unfoldable pub permit_bytes_in : Frame → List ℕ → ℕ → ℕ → List ℕ
unfolding set_permission_in
permit_bytes_in f b t p = pick (eqb (permit_refusal_in f t p) done) (set_permission_in f b t p) b

unfoldable pub permit_bytes : List ℕ → ℕ → ℕ → List ℕ
unfolding set_permission_in
permit_bytes b t p = pick (eqb (permit_refusal b t p) done) (set_permission_in (frame_in b) b t p) b

-- what it answers and leaves, under a frame and on a whole region
pub record PermitSetIn (f : Frame) (b b' : List ℕ) (t p : ℕ) (r : Checked) : Type 0 where
  pub answer : r ≡ permit_check_in f t p
  pub bytes : b' ≡ permit_bytes_in f b t p

pub record PermitSet (b b' : List ℕ) (t p r : ℕ) : Type 0 where
  pub answer : r ≡ permit_refusal b t p
  pub bytes : b' ≡ permit_bytes b t p
