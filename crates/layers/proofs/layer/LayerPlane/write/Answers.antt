use Rattle.std.proofs.Common.{ℕ, ◌^◌, ◌<◌, rules}
use Rattle.layers.proofs.Through.{put_refused, put_turned, write_told}
use Rattle.layers.proofs.layer.LayerPlane.write.Goals as goal

pub returns-in_err-below-clause-put : goal.returns-in_err-below-clause-put
returns-in_err-below-clause-put g c =
    let none = c.in_err-below.ensures in
    put_refused (g.met.V.View.laws c.args.self.now.view) _ _ _ none.same c.args.value none.told

pub returns-clause-told : goal.returns-clause-told
returns-clause-told g c =
    let found = c.in_ok-below.ensures in
    write_told (g.met.V.View.laws c.args.self.now.view) _ _ _ found.same found.told c.write.ensures.told

pub returns-clause-put : goal.returns-clause-put
returns-clause-put g c =
    let found = c.in_ok-below.ensures in
    let value : ℕ = c.args.value in
    let small : value < 2 ^ 16 = search rules in
    put_turned (g.met.V.View.laws c.args.self.now.view) _ _ _ found.same found.told _ _ small c.turned-there.ensures c.write.ensures.put
