-- The places' numbers: 0 is idle, 1 to 16 the places of put, take and mending in the order below. 17 and 18 read and empty the root for a list
-- (where that fails, the thread goes back to 17), and 19 hands out.
use Rattle.std.specs.Prelude.{ℕ, List, [], ◌∷◌, get_or}
use Rattle.region.specs.declared.place.Place.{Place}
use Rattle.region.specs.declared.place.Place.TheVariants.{Idle, ReadDepth, ReadLeaf, ReadAncestor, GrowDepth, ReadTarget, InsertAtRoot, ReadParent, InsertBelow, ReadRoot, RemoveHead, MendReadNode, MendReadDepth, MendReadLeft, MendReadRight, MendSwap, MendClean, ListReadRoot, RemoveList, HandOut}

-- idle, then I1 to I8, E1, E2, M1 to M6 and 17 to 19; w are the waiting levels of a mending place
abbrev pub places : ℕ → List Place
places w =
    Idle
    ∷ ReadDepth
    ∷ ReadLeaf
    ∷ ReadAncestor
    ∷ GrowDepth
    ∷ ReadTarget
    ∷ InsertAtRoot
    ∷ ReadParent
    ∷ InsertBelow
    ∷ ReadRoot
    ∷ RemoveHead
    ∷ MendReadNode w
    ∷ MendReadDepth w
    ∷ MendReadLeft w
    ∷ MendReadRight w
    ∷ MendSwap w
    ∷ MendClean w
    ∷ ListReadRoot
    ∷ RemoveList
    ∷ HandOut
    ∷ []

-- the place with number n, idle past 19
abbrev pub place_of : ℕ → ℕ → Place
place_of n w = get_or (places w) n Idle

abbrev pub place_number : Place → ℕ
place_number Idle = 0
place_number ReadDepth = 1
place_number ReadLeaf = 2
place_number ReadAncestor = 3
place_number GrowDepth = 4
place_number ReadTarget = 5
place_number InsertAtRoot = 6
place_number ReadParent = 7
place_number InsertBelow = 8
place_number ReadRoot = 9
place_number RemoveHead = 10
place_number (MendReadNode w) = 11
place_number (MendReadDepth w) = 12
place_number (MendReadLeft w) = 13
place_number (MendReadRight w) = 14
place_number (MendSwap w) = 15
place_number (MendClean w) = 16
place_number ListReadRoot = 17
place_number RemoveList = 18
place_number HandOut = 19

-- the waiting levels, bit j−1 for level j: only a mending place has any
abbrev pub waiting_levels : Place → ℕ
waiting_levels Idle = 0
waiting_levels ReadDepth = 0
waiting_levels ReadLeaf = 0
waiting_levels ReadAncestor = 0
waiting_levels GrowDepth = 0
waiting_levels ReadTarget = 0
waiting_levels InsertAtRoot = 0
waiting_levels ReadParent = 0
waiting_levels InsertBelow = 0
waiting_levels ReadRoot = 0
waiting_levels RemoveHead = 0
waiting_levels (MendReadNode w) = w
waiting_levels (MendReadDepth w) = w
waiting_levels (MendReadLeft w) = w
waiting_levels (MendReadRight w) = w
waiting_levels (MendSwap w) = w
waiting_levels (MendClean w) = w
waiting_levels ListReadRoot = 0
waiting_levels RemoveList = 0
waiting_levels HandOut = 0
