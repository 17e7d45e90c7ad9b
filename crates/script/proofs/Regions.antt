-- The regions along a script: a laid-out region is readable and has the setup's shape, and the call of a line keeps both. So no line of a
-- script need look at the whole region. Assumes nothing.
use Prim.Native.Nat.{ℕ, ◌+◌, ◌*◌, ◌≤◌}
use mathlib.Core.Path.{◌≡◌, refl, sym, ap, subst, ◌∙◌}
use mathlib.Core.Bool.{true}
use mathlib.Core.List.{List}
use lib.ListN.{length, take, replicate}
use Rattle.std.specs.Prelude.{Ok}
use Rattle.region.specs.Refusal.{Checked, done}
use Rattle.region.specs.Frame.{frame_of}
use Rattle.region.specs.Shape.{region_words}
use Rattle.region.specs.declared.frame.Frame.{Frame}
use Rattle.region.specs.declared.place.Place.TheVariants.{ReadRoot, ListReadRoot}
use Rattle.region.proofs.Picks.{pick_good}
use Rattle.readable.specs.Readable.{readable, shape_in}
use Rattle.begin.specs.Begin.{one_item, whole_list}
use Rattle.machine.specs.Turn.{turn_on_bytes}
use Rattle.preserved.proofs.Proved.{permit_keeps_readable, permit_keeps_shape, put_keeps_readable, put_keeps_shape, take_keeps_readable, take_keeps_shape, turn_keeps_readable, turn_keeps_shape}
use Rattle.preserved.proofs.LaidOutIsReadable.{laid_out_is_readable, same_shape}
use Rattle.script.specs.Inner.{CallMade, LinesReady, Ready, SetUp}
use Rattle.script.specs.Script.{call_bytes, laid_region, permissions_of, region_length, setup_refusal}
use Rattle.script.specs.declared.printing.Outcome.{Outcome}
use Rattle.script.specs.declared.reading.Setup.{Setup}
use Rattle.script.specs.declared.reading.What.{What}
use Rattle.script.specs.declared.reading.What.TheVariants.{Put, Take, TakeList, Permit, Turn}
use Rattle.script.specs.declared.text.Text.{Text}
use Rattle.script.proofs.Setups.{accepted, ready, ready_laid}

-- The call of a line.
pub call_keeps_readable : (b : List ℕ) → readable b ≡ true → (what : What) (t : ℕ) → readable (call_bytes b what t) ≡ true
unfolding turn_on_bytes
call_keeps_readable b e (Put i) t = put_keeps_readable b e t i
call_keeps_readable b e Take t = take_keeps_readable b e t ReadRoot one_item
call_keeps_readable b e TakeList t = take_keeps_readable b e t ListReadRoot whole_list
call_keeps_readable b e (Permit p) t = permit_keeps_readable b e t p
call_keeps_readable b e (Turn c) t =
    pick_good (λ x. readable x ≡ true) (readable b) (λ r. turn_keeps_readable b e t c) (λ r. e)

pub call_keeps_shape : (b : List ℕ) → readable b ≡ true → (what : What) (t : ℕ) → shape_in (call_bytes b what t) ≡ shape_in b
unfolding turn_on_bytes
call_keeps_shape b e (Put i) t = put_keeps_shape b e t i
call_keeps_shape b e Take t = take_keeps_shape b e t ReadRoot one_item
call_keeps_shape b e TakeList t = take_keeps_shape b e t ListReadRoot whole_list
call_keeps_shape b e (Permit p) t = permit_keeps_shape b e t p
call_keeps_shape b e (Turn c) t =
    pick_good (λ x. shape_in x ≡ shape_in b) (readable b) (λ r. turn_keeps_shape b e t c) (λ r. refl)

-- What a line's call leaves is ready for the next.
pub still_ready : (f : Frame) (b b' : List ℕ) → Ready f b → (what : What) (t : ℕ) (o : Outcome) → CallMade b b' what t o → Ready f b'
still_ready f b b' h what t o m =
    record {
      region = subst (λ y. readable y ≡ true) (sym m.bytes) (call_keeps_readable b h.region what t);
      frame = h.frame ∙ ap frame_of (sym (ap shape_in m.bytes ∙ call_keeps_shape b h.region what t));
    }

-- The region of an accepted setup.
module _ (u : Setup) (e : setup_refusal u ≡ done) where
  pub laid_readable : readable (laid_region u) ≡ true
  unfolding laid_region
  laid_readable = laid_out_is_readable u.shape (permissions_of u) (replicate (region_length u) 0) (accepted u e)

  pub laid_shape : shape_in (laid_region u) ≡ u.shape
  unfolding laid_region
  laid_shape = same_shape u.shape (permissions_of u) (replicate (region_length u) 0) (accepted u e)

  pub laid_ready : Ready (frame_of u.shape) (laid_region u)
  laid_ready = record { region = laid_readable; frame = ap frame_of (sym laid_shape) }

-- With it laid out at the start of the lent region g₁, the lines can be run.
module _ (s : List ℕ) (u : Setup) (g g₁ : List ℕ) (t : Text) {r : Checked} (e : SetUp g g₁ u r) {x : Unit {0}} (d : r ≡ Ok x) where
  pub lines_ready : (w : ℕ) → w ≡ region_words u.shape → (f : Frame) → f ≡ frame_of u.shape
      → (length s ≤ 60000) × (length g ≡ 14856) × (t.len + 330055 ≤ length t.out.now) → LinesReady f s (take (4 * w) g₁) t
  lines_ready w ew f ef h =
      let laid : take (4 * w) g₁ ≡ laid_region u = ready_laid s u g g₁ t e d w ew in
      record {
        short = h.0;
        ready = subst (Ready f) (sym laid) (subst (λ x. Ready x (laid_region u)) (sym ef) (laid_ready u (ready s u g g₁ t e d)));
        room = h.2;
      }
