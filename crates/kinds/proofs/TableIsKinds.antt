-- The table's entry at each place's number is the place's kind, computed. Assumes nothing.
use mathlib.Core.Path.{refl}
use Rattle.region.specs.declared.place.Place.TheVariants.{Idle, ReadDepth, ReadLeaf, ReadAncestor, GrowDepth, ReadTarget, InsertAtRoot, ReadParent, InsertBelow, ReadRoot, RemoveHead, MendReadNode, MendReadDepth, MendReadLeft, MendReadRight, MendSwap, MendClean, ListReadRoot, RemoveList, HandOut}
use Rattle.kinds.specs.Theorems.{TableIsKinds}

pub table_is_kinds : TableIsKinds
table_is_kinds Idle = refl
table_is_kinds ReadDepth = refl
table_is_kinds ReadLeaf = refl
table_is_kinds ReadAncestor = refl
table_is_kinds GrowDepth = refl
table_is_kinds ReadTarget = refl
table_is_kinds InsertAtRoot = refl
table_is_kinds ReadParent = refl
table_is_kinds InsertBelow = refl
table_is_kinds ReadRoot = refl
table_is_kinds RemoveHead = refl
table_is_kinds (MendReadNode w) = refl
table_is_kinds (MendReadDepth w) = refl
table_is_kinds (MendReadLeft w) = refl
table_is_kinds (MendReadRight w) = refl
table_is_kinds (MendSwap w) = refl
table_is_kinds (MendClean w) = refl
table_is_kinds ListReadRoot = refl
table_is_kinds RemoveList = refl
table_is_kinds HandOut = refl
