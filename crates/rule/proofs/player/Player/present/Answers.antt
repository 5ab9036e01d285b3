use Rattle.std.proofs.Common.{sym, refl, ap}
use Rattle.std.specs.Result.{result_map_both}
use Rattle.rule.proofs.player.Player.present.Goals as goal

pub returns-in-Some : goal.returns-in-Some
returns-in-Some g c = (_, _, _, _, c.redeem.ensures, refl, refl, ap (result_map_both (λ v. v) (λ e. e.0)) (sym c.unwrap-value.ensures))

pub returns-in-None : goal.returns-in-None
returns-in-None g c = (_, _, _, _, c.redeem-in-None.ensures, refl, refl, ap (result_map_both (λ v. v) (λ e. e.0)) (sym c.unwrap_err-refusal.ensures))
