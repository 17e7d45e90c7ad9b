-- Beginning a put, a take of one item and a take of the root's list (document 01, The sixteen places and the refusals; document 02, request 1),
-- under a frame and on a whole region that holds one queue.
use Rattle.std.specs.Prelude.{ℕ, ◌≡◌, Bool, not, List, Result, Ok, eqb}
use Rattle.words.specs.Word.{word, set_word}
use Rattle.region.specs.Refusal.{Checked, granted, code_of, done, ◌unless◌otherwise◌}
use Rattle.region.specs.declared.refusal.Refusal.{Refusal}
use Rattle.region.specs.declared.refusal.Refusal.TheVariants.{BadThread, BadItem, Unreadable, NotPermitted, ThreadBusy, NoFreeCell}
use Rattle.region.specs.Frame.{frame_of_width}
use Rattle.region.specs.Pick.{pick}
use Rattle.region.specs.Record.{is_item}
use Rattle.region.specs.Shape.{between}
use Rattle.region.specs.Shared.{cell_in, set_cell_in, thread_in, set_thread_in}
use Rattle.region.specs.Thread.{at_place, begun_put, is_idle}
use Rattle.region.specs.declared.frame.Frame.{Frame}
use Rattle.region.specs.declared.place.Place.{Place}
use Rattle.region.specs.declared.place.Place.TheVariants.{ReadRoot, ListReadRoot}
use Rattle.region.specs.declared.record.Item.{Item}
use Rattle.readable.specs.Readable.{frame_in, readable}
use Rattle.permission.specs.Grants.{may_put, may_take}

-- a cell is free: the chain of free cells has a first one
unfoldable pub has_free_cell : Frame → List ℕ → Bool
has_free_cell f b = not (eqb (word b f.free) 0)

-- what a put is refused for under a frame, the first that applies: no such thread, an item out of range, no permission, an operation under way,
-- no free cell
abbrev pub put_check_in : Frame → List ℕ → ℕ → Item → Checked
put_check_in f b t i =
    BadThread unless between 1 t f.shape.threads
    otherwise BadItem unless is_item i
    otherwise NotPermitted unless may_put (thread_in f b t)
    otherwise ThreadBusy unless is_idle (thread_in f b t)
    otherwise NoFreeCell unless has_free_cell f b
    otherwise granted

unfoldable pub put_refusal_in : Frame → List ℕ → ℕ → Item → ℕ
put_refusal_in f b t i = code_of (put_check_in f b t i)

-- on a whole region, which has to be readable first
abbrev pub put_check : List ℕ → ℕ → Item → Checked
put_check b t i = Unreadable unless readable b otherwise put_check_in (frame_in b) b t i

unfoldable pub put_refusal : List ℕ → ℕ → Item → ℕ
unfolding put_refusal_in frame_of_width
put_refusal b t i = code_of (put_check b t i)

-- "Own cell is the first free one; key and tag are written in it, next 0": it leaves the chain
unfoldable pub accepted_put : Frame → List ℕ → ℕ → Item → List ℕ
accepted_put f b t i =
    set_thread_in f
    (set_cell_in f
    (set_word b f.free (cell_in f b (word b f.free)).next)
    (word b f.free)
    (record { item = i; next = 0 }))
    t
    (begun_put (thread_in f b t) i (word b f.free))

-- what a put leaves: a refused one leaves the region alone
unfoldable pub put_bytes_in : Frame → List ℕ → ℕ → Item → List ℕ
unfolding accepted_put
put_bytes_in f b t i = pick (eqb (put_refusal_in f b t i) done) (accepted_put f b t i) b

unfoldable pub put_bytes : List ℕ → ℕ → Item → List ℕ
unfolding accepted_put
put_bytes b t i = pick (eqb (put_refusal b t i) done) (accepted_put (frame_in b) b t i) b

-- where a take begins: at E1 for one item, at 17 for the root's list (request 1)
pub data BeginsAt : Place → Type 0 where
  one_item : BeginsAt ReadRoot
  whole_list : BeginsAt ListReadRoot

-- what a take is refused for, of one item or of a list: no such thread, no permission, an operation under way
abbrev pub take_check_in : Frame → List ℕ → ℕ → Checked
take_check_in f b t =
    BadThread unless between 1 t f.shape.threads
    otherwise NotPermitted unless may_take (thread_in f b t)
    otherwise ThreadBusy unless is_idle (thread_in f b t)
    otherwise granted

unfoldable pub take_refusal_in : Frame → List ℕ → ℕ → ℕ
take_refusal_in f b t = code_of (take_check_in f b t)

abbrev pub take_check : List ℕ → ℕ → Checked
take_check b t = Unreadable unless readable b otherwise take_check_in (frame_in b) b t

unfoldable pub take_refusal : List ℕ → ℕ → ℕ
unfolding take_refusal_in frame_of_width
take_refusal b t = code_of (take_check b t)

-- what a take leaves that begins at place p
abbrev pub accepted_take : Frame → List ℕ → ℕ → Place → List ℕ
accepted_take f b t p = set_thread_in f b t (at_place (thread_in f b t) p)

unfoldable pub take_bytes_in : Frame → List ℕ → ℕ → Place → List ℕ
take_bytes_in f b t p = pick (eqb (take_refusal_in f b t) done) (accepted_take f b t p) b

unfoldable pub take_bytes : List ℕ → ℕ → Place → List ℕ
take_bytes b t p = pick (eqb (take_refusal b t) done) (accepted_take (frame_in b) b t p) b

-- what the calls answer and leave, under a frame and, with the number that tells it to a host, on a whole region
pub record PutBegunIn (f : Frame) (b b' : List ℕ) (t : ℕ) (i : Item) (r : Checked) : Type 0 where
  pub answer : r ≡ put_check_in f b t i
  pub bytes : b' ≡ put_bytes_in f b t i

pub record PutBegun (b b' : List ℕ) (t : ℕ) (i : Item) (r : ℕ) : Type 0 where
  pub answer : r ≡ put_refusal b t i
  pub bytes : b' ≡ put_bytes b t i

pub record TakeBegunIn (f : Frame) (b b' : List ℕ) (t : ℕ) (p : Place) (r : Checked) : Type 0 where
  pub answer : r ≡ take_check_in f b t
  pub bytes : b' ≡ take_bytes_in f b t p

pub record TakeBegun (b b' : List ℕ) (t : ℕ) (p : Place) (r : ℕ) : Type 0 where
  pub answer : r ≡ take_refusal b t
  pub bytes : b' ≡ take_bytes b t p
