-- Each record goes to the room or to the front of the list.
use Rattle.decomposition.proofs.Divided.{has_room, taken, passed, all_held, all_left}
use Rattle.decomposition.proofs.split.divide.Goals as goal
use Rattle.decomposition.proofs.split.divide.Goals.{then-holds, else-holds}

pub bounds-room-held : goal.bounds-room-held
bounds-room-held c = has_room c.loop-i.invariant _ c.loop-i-test.true c.if-holds.ensures

pub loop-i-preserved : goal.loop-i-preserved
loop-i-preserved c =
    elim c.if-holds.branch [
      | then-holds w ↦ rw (w.list-is, w.room-is, w.held-is, w.left-is) (taken c.loop-i.invariant _ c.loop-i-test.true w.if-holds.ensures w.without.result w.without.ensures)
      | else-holds w ↦ rw (w.list-is, w.room-is, w.held-is, w.left-is) (passed c.loop-i.invariant _ c.loop-i-test.true w.if-holds.ensures)
    ]

pub returns-clause-held : goal.returns-clause-held
returns-clause-held c = all_held c.loop-i.invariant c.loop-i-test.false

pub returns-clause-left : goal.returns-clause-left
returns-clause-left c = all_left c.loop-i.invariant c.loop-i-test.false
