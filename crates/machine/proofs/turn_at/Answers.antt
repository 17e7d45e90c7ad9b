-- `machine::turn_at` meets its contract: idle, or a turn at the place where the thread stands. Assumes nothing.
use mathlib.Core.Path.{refl}
use Rattle.region.specs.declared.place.Place.TheVariants.{ReadDepth, ReadLeaf, ReadAncestor, GrowDepth, ReadTarget, InsertAtRoot, ReadParent, InsertBelow, ReadRoot, RemoveHead, MendReadNode, MendReadDepth, MendReadLeft, MendReadRight, MendSwap, MendClean, ListReadRoot, RemoveList, HandOut}
use Rattle.std.proofs.Common.{rules}
use Rattle.machine.proofs.Ways.{rested, turned, turned_put, turned_take}
use Rattle.machine.proofs.turn_at.Goals as goal

pub returns-in-Idle-clause-turn : goal.returns-in-Idle-clause-turn
returns-in-Idle-clause-turn c = search rested

pub returns-in-ReadDepth-clause-turn : goal.returns-in-ReadDepth-clause-turn
returns-in-ReadDepth-clause-turn c =
    turned_put _ _ _ _ _ c.requires ReadDepth c.in-ReadDepth.is _ _ refl c.put_turn.ensures.turn (λ v x p e. e.2)

pub returns-in-ReadLeaf-clause-turn : goal.returns-in-ReadLeaf-clause-turn
returns-in-ReadLeaf-clause-turn c =
    turned_put _ _ _ _ _ c.requires ReadLeaf c.in-ReadLeaf.is _ _ refl c.put_turn-in-ReadLeaf.ensures.turn (λ v x p e. search rules)

pub returns-in-ReadAncestor-clause-turn : goal.returns-in-ReadAncestor-clause-turn
returns-in-ReadAncestor-clause-turn c =
    turned_put _ _ _ _ _ c.requires ReadAncestor c.in-ReadAncestor.is _ _ refl c.put_turn-in-ReadAncestor.ensures.turn (λ v x p e. e.2)

pub returns-in-GrowDepth-clause-turn : goal.returns-in-GrowDepth-clause-turn
returns-in-GrowDepth-clause-turn c =
    turned_put _ _ _ _ _ c.requires GrowDepth c.in-GrowDepth.is _ _ refl c.put_turn-in-GrowDepth.ensures.turn (λ v x p e. e.2)

pub returns-in-ReadTarget-clause-turn : goal.returns-in-ReadTarget-clause-turn
returns-in-ReadTarget-clause-turn c =
    turned_put _ _ _ _ _ c.requires ReadTarget c.in-ReadTarget.is _ _ refl c.put_turn-in-ReadTarget.ensures.turn (λ v x p e. e.2)

pub returns-in-InsertAtRoot-clause-turn : goal.returns-in-InsertAtRoot-clause-turn
returns-in-InsertAtRoot-clause-turn c =
    turned_put _ _ _ _ _ c.requires InsertAtRoot c.in-InsertAtRoot.is _ _ refl c.put_turn-in-InsertAtRoot.ensures.turn (λ v x p e. e.2)

pub returns-in-ReadParent-clause-turn : goal.returns-in-ReadParent-clause-turn
returns-in-ReadParent-clause-turn c =
    turned_put _ _ _ _ _ c.requires ReadParent c.in-ReadParent.is _ _ refl c.put_turn-in-ReadParent.ensures.turn (λ v x p e. e.2)

pub returns-in-InsertBelow-clause-turn : goal.returns-in-InsertBelow-clause-turn
returns-in-InsertBelow-clause-turn c =
    turned_put _ _ _ _ _ c.requires InsertBelow c.in-InsertBelow.is _ _ refl c.put_turn-in-InsertBelow.ensures.turn (λ v x p e. e.2)

pub returns-in-ReadRoot-clause-turn : goal.returns-in-ReadRoot-clause-turn
returns-in-ReadRoot-clause-turn c =
    turned_take _ _ _ _ _ c.requires ReadRoot c.in-ReadRoot.is _ _ refl c.take_turn.ensures.turn (λ v x p e. e.2)

pub returns-in-RemoveHead-clause-turn : goal.returns-in-RemoveHead-clause-turn
returns-in-RemoveHead-clause-turn c =
    turned_take _ _ _ _ _ c.requires RemoveHead c.in-RemoveHead.is _ _ refl c.take_turn-in-RemoveHead.ensures.turn (λ v x p e. e.2)

pub returns-in-MendReadNode-clause-turn : goal.returns-in-MendReadNode-clause-turn
returns-in-MendReadNode-clause-turn c =
    turned _ _ _ _ _ c.requires (MendReadNode _) c.in-MendReadNode.is _ _ refl refl c.free_turn.ensures.turn (λ v x p e. search rules)

pub returns-in-MendReadDepth-clause-turn : goal.returns-in-MendReadDepth-clause-turn
returns-in-MendReadDepth-clause-turn c =
    turned _ _ _ _ _ c.requires (MendReadDepth _) c.in-MendReadDepth.is _ _ refl refl c.free_turn-in-MendReadDepth.ensures.turn (λ v x p e. search rules)

pub returns-in-MendReadLeft-clause-turn : goal.returns-in-MendReadLeft-clause-turn
returns-in-MendReadLeft-clause-turn c =
    turned _ _ _ _ _ c.requires (MendReadLeft _) c.in-MendReadLeft.is _ _ refl refl c.free_turn-in-MendReadLeft.ensures.turn (λ v x p e. search rules)

pub returns-in-MendReadRight-clause-turn : goal.returns-in-MendReadRight-clause-turn
returns-in-MendReadRight-clause-turn c =
    turned _ _ _ _ _ c.requires (MendReadRight _) c.in-MendReadRight.is _ _ refl refl c.free_turn-in-MendReadRight.ensures.turn (λ v x p e. search rules)

pub returns-in-MendSwap-clause-turn : goal.returns-in-MendSwap-clause-turn
returns-in-MendSwap-clause-turn c =
    turned _ _ _ _ _ c.requires (MendSwap _) c.in-MendSwap.is _ _ refl refl c.free_turn-in-MendSwap.ensures.turn (λ v x p e. search rules)

pub returns-in-MendClean-clause-turn : goal.returns-in-MendClean-clause-turn
returns-in-MendClean-clause-turn c =
    turned _ _ _ _ _ c.requires (MendClean _) c.in-MendClean.is _ _ refl refl c.free_turn-in-MendClean.ensures.turn (λ v x p e. search rules)

pub returns-in-ListReadRoot-clause-turn : goal.returns-in-ListReadRoot-clause-turn
returns-in-ListReadRoot-clause-turn c =
    turned_take _ _ _ _ _ c.requires ListReadRoot c.in-ListReadRoot.is _ _ refl c.take_turn-in-ListReadRoot.ensures.turn (λ v x p e. e.2)

pub returns-in-RemoveList-clause-turn : goal.returns-in-RemoveList-clause-turn
returns-in-RemoveList-clause-turn c =
    turned_take _ _ _ _ _ c.requires RemoveList c.in-RemoveList.is _ _ refl c.take_turn-in-RemoveList.ensures.turn (λ v x p e. e.2)

pub returns-in-HandOut-clause-turn : goal.returns-in-HandOut-clause-turn
returns-in-HandOut-clause-turn c =
    turned _ _ _ _ _ c.requires HandOut c.in-HandOut.is _ _ refl refl c.free_turn-in-HandOut.ensures.turn (λ v x p e. e.2)
