use Rattle.std.proofs.Common.{rules}
use Rattle.words.proofs.Overlays.{store_part}
use Rattle.words.proofs.storing.store.Goals as goal

pub returns-then-at-bytes : goal.returns-then-at-bytes
returns-then-at-bytes c = search (rules, store_part)
