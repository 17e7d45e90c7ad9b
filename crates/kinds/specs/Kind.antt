-- What a turn counts as (document 02, request 6): the kind of its access, and whether its update failed.
use Rattle.std.specs.Prelude.{ℕ, Bool, true, false, ◌&&◌, eqb}
use Rattle.region.specs.Shape.{between}
use Rattle.region.specs.declared.answer.Answer.{Answer}
use Rattle.region.specs.declared.place.Place.{Place}
use Rattle.region.specs.declared.place.Place.TheVariants.{Idle, ReadDepth, ReadLeaf, ReadAncestor, GrowDepth, ReadTarget, InsertAtRoot, ReadParent, InsertBelow, ReadRoot, RemoveHead, MendReadNode, MendReadDepth, MendReadLeft, MendReadRight, MendSwap, MendClean, ListReadRoot, RemoveList, HandOut}
use Rattle.access.specs.Plan.{accesses_of}
use Rattle.access.specs.declared.effect.Effect.{Effect}
use Rattle.access.specs.declared.effect.Effect.TheVariants.{Nothing, Grow, Push, Pop, Exchange, Clean, Detach, Free}
use Rattle.access.specs.declared.plan.Plan.{Plan}

-- "out of READ node, READ depth, CAS, DCAS, DCSS", "hand-outs are a sixth kind", numbered in this order
abbrev pub reads_node : ℕ
reads_node = 0

abbrev pub reads_depth : ℕ
reads_depth = 1

abbrev pub cas : ℕ
cas = 2

abbrev pub dcas : ℕ
dcas = 3

abbrev pub dcss : ℕ
dcss = 4

abbrev pub hands_out : ℕ
hands_out = 5

-- an idle thread makes no access
abbrev pub no_access : ℕ
no_access = 6

-- "each of the sixteen places has one kind of access", as document 01 names it at the place; "17 and 18 count as E1 and E2"
abbrev pub access_kind : Place → ℕ
access_kind Idle = no_access
access_kind ReadDepth = reads_depth
access_kind ReadLeaf = reads_node
access_kind ReadAncestor = reads_node
access_kind GrowDepth = cas
access_kind ReadTarget = reads_node
access_kind InsertAtRoot = cas
access_kind ReadParent = reads_node
access_kind InsertBelow = dcss
access_kind ReadRoot = reads_node
access_kind RemoveHead = cas
access_kind (MendReadNode w) = reads_node
access_kind (MendReadDepth w) = reads_depth
access_kind (MendReadLeft w) = reads_node
access_kind (MendReadRight w) = reads_node
access_kind (MendSwap w) = dcas
access_kind (MendClean w) = cas
access_kind ListReadRoot = reads_node
access_kind RemoveList = cas
access_kind HandOut = hands_out

-- whether a turn with this answer made its place's access: a turn that is refused, withdrawn or idle made none
unfoldable pub makes_access : Answer → Bool
makes_access a = eqb (accesses_of a) 1

-- the updates are CAS, DCAS and DCSS
unfoldable pub is_update : ℕ → Bool
is_update k = between cas k dcss

abbrev pub is_nothing : Effect → Bool
is_nothing Nothing = true
is_nothing (Grow d) = false
is_nothing (Push n v c x) = false
is_nothing (Pop v c) = false
is_nothing (Exchange n v k w) = false
is_nothing (Clean n v) = false
is_nothing (Detach v) = false
is_nothing (Free c) = false

-- "updates that failed (I4's too)": the turn of a thread that stood at place p, with plan q, made the access of an update, and changed
-- nothing in shared memory. That this is when the comparison did not hold: `FailedIsComparison` in Theorems.antt.
unfoldable pub failed_update : Place → Plan → Bool
unfolding is_update makes_access
failed_update p q = is_update (access_kind p) && makes_access q.answer && is_nothing q.effect
