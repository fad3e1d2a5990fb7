-- `revoke_grants` meets its contract: every grant is dropped, and then the switch is cleared.
use Rattle.std.proofs.Common.{rules}
use Rattle.table.specs.Acts.{every_path}
use Rattle.table.proofs.RevokeLaws.{revoke-all-law}
use Rattle.table.proofs.revoking.revoke_grants.Goals as goal

pub returns : goal.returns
returns c =
    revoke-all-law _ _ _ _ (c.drop_grants.ensures every_path (record { answers = λ p r says. search rules })) c.clear_bit-switches.ensures c.write_switches.ensures
