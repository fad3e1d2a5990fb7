-- `read access` is written, and with a path ` to ` and the name behind it.
use mathlib.Core.Path.{ap}
use native.Mathlib.Omega.{arith}
use lib.ListN.{length}
use Rattle.deciding.specs.Texts.{text_of}
use Rattle.deciding.proofs.TextLaws.{text-named, length-shown}
use Rattle.deciding.proofs.texts.write_text.Goals as goal

pub append-end-requires : goal.append-end-requires
append-end-requires c = omega (arith, c.requires.room)

pub append-at-requires : goal.append-at-requires
append-at-requires c = omega (arith, c.requires.room)

pub append_name-requires : goal.append_name-requires
append_name-requires c =
    omega (arith, ap length c.display_name.ensures, c.requires.room, length-shown c.args.given.now c.args.resolved.now (c.requires.brief c.in-Path.is) c.requires.short)

pub returns-in-NoPath : goal.returns-in-NoPath
unfolding text_of
returns-in-NoPath c = rw c.in-NoPath.is c.append-end.ensures

pub returns-in-Path : goal.returns-in-Path
returns-in-Path c =
    rw c.in-Path.is
    (text-named _ _ _ c.requires.room c.display_name.ensures c.append-end.ensures c.append-at.ensures c.append_name.ensures)
