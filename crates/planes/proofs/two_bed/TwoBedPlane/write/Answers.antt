use Rattle.std.proofs.Common.{arith}
use Rattle.planes.proofs.Charts.{placed, refused_written}
use Rattle.planes.proofs.Beds.{bed_room, bed_write, bed_rest}
use Rattle.planes.proofs.two_bed.TwoBedPlane.write.Goals as goal

pub returns-in_err-index-clause-put : goal.returns-in_err-index-clause-put
returns-in_err-index-clause-put c = refused_written _ _ _ _ _ _ _ _ c.tall.ensures c.in_err-index.ensures

pub bounds-self-index : goal.bounds-self-index
bounds-self-index c = omega (arith, bed_room c.args.self.now.front.now c.args.self.now.back.now _ _ _ (placed _ _ _ _ _ _ c.tall.ensures c.in_ok-index.ensures))

pub bounds-self-index-2 : goal.bounds-self-index-2
bounds-self-index-2 c = omega (arith, bed_room c.args.self.now.front.now c.args.self.now.back.now _ _ _ (placed _ _ _ _ _ _ c.tall.ensures c.in_ok-index.ensures))

pub returns-clause-put : goal.returns-clause-put
returns-clause-put c = bed_write _ _ _ _ _ _ _ _ (placed _ _ _ _ _ _ c.tall.ensures c.in_ok-index.ensures) c.deal-even.ensures

pub returns-clause-rest : goal.returns-clause-rest
returns-clause-rest c = bed_rest _ _ _ _ _ _ _ _ (placed _ _ _ _ _ _ c.tall.ensures c.in_ok-index.ensures) c.deal-even.ensures _ _
