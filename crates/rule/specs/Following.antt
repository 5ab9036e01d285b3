-- A board and the rule side by side. Only private functions cite these.
use Rattle.std.specs.Prelude.{◌≡◌, Option}
use Rattle.board.specs.State as board
use Rattle.board.specs.Scans.{lit}
use Rattle.rule.specs.declared.Answer.{Answer}
use Rattle.rule.specs.Rule.{Place, State, Clear, word_at, ruling}
use Rattle.rule.specs.Lists.{Question, status_after}

-- the state of the rule beside a board, where a word was begun at p or none was
abbrev pub rule_of : Option Place → board.State → State
rule_of p s = record { chart = s.shown; place = p; unit = s.regs.unit }

-- the board's word under way is the one at the place; with no place there is none
abbrev pub Keeps : Option Place → board.State → Type 0
Keeps p s = s.regs.ahead ≡ word_at s.shown p

-- a call on a board does what the rule says: the answer, the call as it came back, and the board then
pub record Agrees (p : Option Place) (q : Question) (s : board.State) (answer : Answer) (left : Question) (t : board.State) : Type 0 where
  pub answer_is : answer ≡ (ruling (rule_of p s) q.call).answer
  pub bytes_are : left.bytes ≡ (ruling (rule_of p s) q.call).written (lit s.regs.status) q.bytes
  pub status_is : t.regs.status ≡ status_after (rule_of p s) q.call s.regs.status
  pub after_is : rule_of (ruling (rule_of p s) q.call).after.place t ≡ (ruling (rule_of p s) q.call).after
  pub keeps : Keeps (ruling (rule_of p s) q.call).after.place t

abbrev pub Follows : Question → board.State → Answer → Question → board.State → Type 0
Follows q s answer left t = (p : Option Place) → Keeps p s → Clear (rule_of p s) q.call → Agrees p q s answer left t
