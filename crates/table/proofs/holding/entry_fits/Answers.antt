-- `entry_fits` meets its contract, test by test.
use mathlib.Core.Path.{sym, ap, ◌∙◌}
use native.Mathlib.Omega.{arith}
use Rattle.std.proofs.Common.{rules}
use Rattle.paths.specs.Resolving.{is_resolved}
use Rattle.table.proofs.ScanningLaws.{unfit, fit-path}
use Rattle.table.proofs.holding.entry_fits.Goals as goal

pub returns-then-len-room : goal.returns-then-len-room
returns-then-len-room c =
    let len = c.word_at-len.ensures.0 in
    c.is_resolved.ensures ∙ ap is_resolved c.entry_path.ensures ∙ fit-path _ _ _ (omega arith) (omega arith) (omega arith)

pub returns-else-len-room : goal.returns-else-len-room
returns-else-len-room c = search rules ∙ sym (unfit _ _ _ (λ k l r. omega (arith, c.word_at-len.ensures.0)))
