use Rattle.std.proofs.Common.{arith}
use Rattle.planes.proofs.Charts.{placed, answer_on}
use Rattle.planes.proofs.FlatBytes.{flat_room, flat_read}
use Rattle.planes.proofs.flat.FlatPlane.read.Goals as goal

pub bounds-self-first : goal.bounds-self-first
bounds-self-first c = omega (arith, flat_room c.args.self.now.bytes.now _ _ _ (placed _ _ _ _ _ _ c.tall.ensures c.in_ok-first.ensures))

pub bounds-self-first-2 : goal.bounds-self-first-2
bounds-self-first-2 c = omega (arith, flat_room c.args.self.now.bytes.now _ _ _ (placed _ _ _ _ _ _ c.tall.ensures c.in_ok-first.ensures))

pub returns-clause-told : goal.returns-clause-told
returns-clause-told c =
    let on = placed _ _ _ _ _ _ c.tall.ensures c.in_ok-first.ensures in
    answer_on _ _ _ _ _ on.few on.low (flat_read _ _ _ _ _ on (omega arith) (omega arith) c.joined.ensures)
