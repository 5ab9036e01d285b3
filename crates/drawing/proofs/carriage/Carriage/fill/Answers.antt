use Rattle.std.proofs.Common.{◌*◌, ◌<◌, subst, rules, arith}
use Rattle.board.specs.State.{State, state_of}
use Rattle.drawing.specs.Figures.{Area}
use Rattle.drawing.specs.Given.{covers}
use Rattle.drawing.specs.Setting.{Drew}
use Rattle.drawing.proofs.Strips.{drew_none, drew_more}
use Rattle.drawing.proofs.carriage.Carriage.fill.Goals as goal

pub loop-k-init : goal.loop-k-init
loop-k-init g c = record {
  drew = drew_none _ _ _ _ _ c.ink.ensures.inked;
  lent = c.ink.ensures.lent;
}

pub loop-k-preserved : goal.loop-k-preserved
loop-k-preserved g c =
    let here : State = state_of g.P.Plane c.loop-k.self.board.now in
    let next : State = state_of g.P.Plane c.fill_strip.new.self.board.now in
    let there : 16 * c.loop-k.k < c.args.rect.w = omega (arith, c.row_words-k-end.ensures) in
    let drew = subst (λ (a : Area). Drew a here.regs.function here.regs.mask here next) c.strip.ensures.is c.fill_strip.ensures.drew in
    record {
      drew = drew_more (covers c.args.rect) c.loop-k.k _ _ _ here next there c.loop-k.invariant.drew drew;
      lent = search rules;
    }
