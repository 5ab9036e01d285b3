use Rattle.std.proofs.Common.{arith}
use Rattle.planes.proofs.Charts.{placed, answer_on}
use Rattle.planes.proofs.Beds.{bed_room, bed_read}
use Rattle.planes.proofs.two_bed.TwoBedPlane.read.Goals as goal

pub bounds-self-index : goal.bounds-self-index
bounds-self-index c = omega (arith, bed_room c.args.self.now.front.now c.args.self.now.back.now _ _ _ (placed _ _ _ _ _ _ c.tall.ensures c.in_ok-index.ensures))

pub bounds-self-index-2 : goal.bounds-self-index-2
bounds-self-index-2 c = omega (arith, bed_room c.args.self.now.front.now c.args.self.now.back.now _ _ _ (placed _ _ _ _ _ _ c.tall.ensures c.in_ok-index.ensures))

pub returns-clause-told : goal.returns-clause-told
returns-clause-told c =
    let on = placed _ _ _ _ _ _ c.tall.ensures c.in_ok-index.ensures in
    answer_on _ _ _ _ _ on.few on.low (bed_read _ _ _ _ _ _ on c.interleave.type_inv c.interleave.ensures)
