-- The calls on a region, with their arguments as given (document 01, The bag: "any list of calls on it .. put, take, run, check
-- and refused layouts, with whatever arguments, refused or not"; request 1's list, request 5's permit, and conversions into the region, of request
-- 7). That they are the exported functions is Exported.antt.
use Rattle.std.specs.Prelude.{ℕ, ◌≡◌, List, [], ◌∷◌, length}
use Rattle.region.specs.Refusal.{done}
use Rattle.region.specs.declared.place.Place.TheVariants.{ReadRoot, ListReadRoot}
use Rattle.region.specs.declared.record.Item.{Item}
use Rattle.region.specs.declared.shape.Shape.{Shape}
use Rattle.layout.specs.Layout.{layout_refusal, layout_bytes}
use Rattle.readable.specs.Readable.{check_answer}
use Rattle.begin.specs.Begin.{put_bytes, put_refusal, take_bytes, take_refusal}
use Rattle.permission.specs.Permit.{permit_bytes, permit_refusal}
use Rattle.convert.specs.Convert.{convert_refusal, converted_bytes}
use Rattle.run.specs.Run.{run_refusal, run_result}

pub data Call : Type 0 where
  layout : Shape → List ℕ → Call
  -- of these bytes of an old region
  convert : List ℕ → Call
  put : ℕ → Item → Call
  take : ℕ → Call
  list : ℕ → Call
  permit : ℕ → ℕ → Call
  run : List ℕ → ℕ → List ℕ → Call
  check : Call

-- what a call on the region b answers: done, or its refusal's number
unfoldable pub refusal_of : List ℕ → Call → ℕ
refusal_of b (layout s permissions) = layout_refusal s permissions (length b)
refusal_of b (convert old) = convert_refusal old (length b)
refusal_of b (put t i) = put_refusal b t i
refusal_of b (take t) = take_refusal b t
refusal_of b (list t) = take_refusal b t
refusal_of b (permit t p) = permit_refusal b t p
refusal_of b (run schedule limit answers) = run_refusal b schedule (length answers)
refusal_of b check = check_answer b

-- the region after a call: "Each call is lent the whole region as the one before left it"
unfoldable pub after : List ℕ → Call → List ℕ
after b (layout s permissions) = layout_bytes s permissions b
after b (convert old) = converted_bytes old b
after b (put t i) = put_bytes b t i
after b (take t) = take_bytes b t ReadRoot
after b (list t) = take_bytes b t ListReadRoot
after b (permit t p) = permit_bytes b t p
after b (run schedule limit answers) = (run_result b schedule limit answers).region
after b check = b

-- "without another accepted layout", on a slice of l bytes; a conversion that is accepted sets every byte of the region too
abbrev pub NoAcceptedLayout : ℕ → List Call → Type 0
NoAcceptedLayout l [] = Unit
NoAcceptedLayout l (layout s permissions ∷ cs) = (layout_refusal s permissions l ≡ done → ⊥) × NoAcceptedLayout l cs
NoAcceptedLayout l (convert old ∷ cs) = (convert_refusal old l ≡ done → ⊥) × NoAcceptedLayout l cs
NoAcceptedLayout l (put t i ∷ cs) = NoAcceptedLayout l cs
NoAcceptedLayout l (take t ∷ cs) = NoAcceptedLayout l cs
NoAcceptedLayout l (list t ∷ cs) = NoAcceptedLayout l cs
NoAcceptedLayout l (permit t p ∷ cs) = NoAcceptedLayout l cs
NoAcceptedLayout l (run schedule limit answers ∷ cs) = NoAcceptedLayout l cs
NoAcceptedLayout l (check ∷ cs) = NoAcceptedLayout l cs
