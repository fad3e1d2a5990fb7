-- `hold_next` meets its contract: the words that were taken decide what the record is, and the record takes its own.
use mathlib.Core.Path.{sym}
use lib.Seq.{length-take-le}
use Rattle.holdlist.specs.Holding.{standing}
use Rattle.holdlist.proofs.HoldingLaws.{words_inside, next-record, holds-malformed}
use Rattle.holdlist.proofs.reading.hold_next.Goals as goal

pub slice_bounds-words-end : goal.slice_bounds-words-end
slice_bounds-words-end c = words_inside (standing c.args.mem.now c.args.held) c.args.bytes.now c.take_words-count.ensures

pub slice_bounds-read_record-end : goal.slice_bounds-read_record-end
slice_bounds-read_record-end c =
    sym (length-take-le _ _ (words_inside (standing c.args.mem.now c.args.held) c.args.bytes.now c.take_words-count.ensures))

-- the record that the words begin with
pub slice_bounds-words-end-in-Some : goal.slice_bounds-words-end-in-Some
slice_bounds-words-end-in-Some c = (next-record (standing c.args.mem.now c.args.held) c.args.bytes.now c.take_words-count.ensures c.read_record.ensures c.in-Some.is).few

pub slice_bounds-hold_record-end : goal.slice_bounds-hold_record-end
slice_bounds-hold_record-end c = sym (length-take-le _ _ (next-record (standing c.args.mem.now c.args.held) c.args.bytes.now c.take_words-count.ensures c.read_record.ensures c.in-Some.is).few)

pub returns-in-Some : goal.returns-in-Some
returns-in-Some c =
    let next = next-record (standing c.args.mem.now c.args.held) c.args.bytes.now c.take_words-count.ensures c.read_record.ensures c.in-Some.is in
    rw next.after c.hold_record.ensures

pub returns-in-None : goal.returns-in-None
returns-in-None c =
    holds-malformed c.args.held c.args.bytes.now c.take_words-count.ensures c.read_record.ensures c.in-None.is c.stop.ensures
