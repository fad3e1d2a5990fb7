-- `hold_record` meets its contract.
use Rattle.holdlist.proofs.HoldingLaws.{holds-arrived}
use Rattle.holdlist.proofs.reading.hold_record.Goals as goal

pub returns : goal.returns
returns c = holds-arrived c.args.words.now c.args.held c.arrive-answer.ensures c.hold_arrived.ensures
