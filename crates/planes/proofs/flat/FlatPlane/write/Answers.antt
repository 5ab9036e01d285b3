use Rattle.std.proofs.Common.{ℕ, List, [], ◌∷◌, ap}
use Rattle.planes.proofs.Charts.{placed, refused_written}
use Rattle.planes.proofs.FlatBytes.{flat_write, flat_spare_stays}
use Rattle.planes.proofs.flat.FlatPlane.write.Goals as goal

pub returns-in_err-index-clause-put : goal.returns-in_err-index-clause-put
returns-in_err-index-clause-put c = refused_written _ _ _ _ _ _ _ _ c.tall.ensures c.in_err-index.ensures

pub returns-clause-put : goal.returns-clause-put
returns-clause-put c = flat_write _ _ _ _ _ (placed _ _ _ _ _ _ c.tall.ensures c.in_ok-index.ensures) _ c.store.ensures

pub returns-clause-rest : goal.returns-clause-rest
returns-clause-rest c =
    ap (λ (bs : List ℕ). (c.args.self.now.bytes.ghost_name ∷ bs) ∷ [])
    (flat_spare_stays _ _ _ _ _ (placed _ _ _ _ _ _ c.tall.ensures c.in_ok-index.ensures) _ c.store.ensures)
