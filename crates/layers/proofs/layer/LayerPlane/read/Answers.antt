use Rattle.std.proofs.Common.{Ok, Err, ap, ◌∙◌}
use Rattle.std.proofs.lemmas.Result.{err_from_is_err_and}
use Rattle.layers.proofs.Through.{read_refused, read_turned}
use Rattle.layers.proofs.layer.LayerPlane.read.Goals as goal

pub returns-in_err-there-clause-told : goal.returns-in_err-there-clause-told
returns-in_err-there-clause-told g c =
    let e = err_from_is_err_and c.from_residual-in_err-there.result c.from_residual-in_err-there.ensures.1 in
    let found = c.in_ok-below.ensures in
    e.1 ∙ ap Err e.2 ∙ read_refused (g.met.V.View.laws c.args.self.now.view) _ _ _ found.same found.told _ _ c.in_err-there.ensures.told

pub returns-clause-told : goal.returns-clause-told
returns-clause-told g c =
    let found = c.in_ok-below.ensures in
    ap Ok c.turned.ensures ∙ read_turned (g.met.V.View.laws c.args.self.now.view) _ _ _ found.same found.told c.in_ok-there.ensures.told
