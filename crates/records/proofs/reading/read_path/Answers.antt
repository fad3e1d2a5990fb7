-- `read_path` meets its contract, at each way out.
use lib.ListN.{drop}
use Rattle.records.proofs.ReadingLaws.{path-without-length, sized, path-behind}
use Rattle.records.proofs.reading.read_path.Goals as goal

pub returns-in_err-n : goal.returns-in_err-n
returns-in_err-n c = rw c.from_residual.ensures (path-without-length _ _ _ c.in_err-n.ensures)

pub read_path_of-requires : goal.read_path_of-requires
read_path_of-requires c =
    let S = sized c.args.next _ (drop c.args.at c.args.words.now) c.in_ok-n.ensures in
    (S.some_byte, S.short, c.requires)

pub returns : goal.returns
returns c = path-behind c.args.words.now c.args.at c.args.next _ c.in_ok-n.ensures c.read_path_of.ensures
