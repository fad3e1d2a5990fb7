-- `write_header` meets its contract.
use Rattle.std.specs.Prelude.{Ok}
use Prim.Native.Nat.{ℕ}
use mathlib.Core.Path.{◌≡◌, sym, ◌∙◌, refl}
use native.Mathlib.Omega.{arith}
use Rattle.refusals.specs.Refusals.{Result}
use Rattle.text.specs.Text.{text}
use Rattle.text.proofs.PieceLaws.{labelled-end}
use Rattle.standby.specs.Owing.{owed_of}
use Rattle.standby.proofs.OwingLaws.{owing-exact}
use Rattle.holdlist.proofs.LineLaws.{header-written}
use Rattle.holdlist.proofs.printing.write_header.Goals as goal

-- a report that says j
abbrev ok : ℕ → Result ℕ
ok j = Ok j

told_is : {j k : ℕ} → ok j ≡ ok k → j ≡ k
told_is e = cc

pub append_labelled-numbered-requires : goal.append_labelled-numbered-requires
append_labelled-numbered-requires c = omega (arith, c.requires.1, labelled-end (text "entries ") _ c.append_labelled-counted.ensures)

pub unwrap-requires : goal.unwrap-requires
unwrap-requires c = rw (c.owed.ensures ∙ sym (owing-exact c.args.numbers c.requires.0 refl))

pub append_labelled-owing-requires : goal.append_labelled-owing-requires
append_labelled-owing-requires c = omega (arith, c.requires.1, labelled-end (text "entries ") _ c.append_labelled-counted.ensures, labelled-end (text " changes ") _ c.append_labelled-numbered.ensures)

pub append_labelled-switched-requires : goal.append_labelled-switched-requires
append_labelled-switched-requires c = omega (arith, c.requires.1, labelled-end (text "entries ") _ c.append_labelled-counted.ensures, labelled-end (text " changes ") _ c.append_labelled-numbered.ensures, labelled-end (text " owed ") _ c.append_labelled-owing.ensures)

pub append_labelled-marked-requires : goal.append_labelled-marked-requires
append_labelled-marked-requires c = omega (arith, c.requires.1, labelled-end (text "entries ") _ c.append_labelled-counted.ensures, labelled-end (text " changes ") _ c.append_labelled-numbered.ensures, labelled-end (text " owed ") _ c.append_labelled-owing.ensures, labelled-end (text " switches ") _ c.append_labelled-switched.ensures)

pub append-requires : goal.append-requires
append-requires c = omega (arith, c.requires.1, labelled-end (text "entries ") _ c.append_labelled-counted.ensures, labelled-end (text " changes ") _ c.append_labelled-numbered.ensures, labelled-end (text " owed ") _ c.append_labelled-owing.ensures, labelled-end (text " switches ") _ c.append_labelled-switched.ensures, labelled-end (text " marks ") _ c.append_labelled-marked.ensures)

pub returns : goal.returns
returns c =
    let told : ok c.unwrap.result ≡ ok (owed_of c.args.numbers) = sym c.unwrap.ensures ∙ c.owed.ensures ∙ sym (owing-exact c.args.numbers c.requires.0 refl) in
    header-written c.args.table.now c.args.numbers _ _ _ _ c.requires.1
    c.count.ensures.0 (told_is told) (c.from.ensures ∙ c.switches.ensures.0) (c.from-2.ensures ∙ c.marks.ensures.0)
    c.append_labelled-counted.ensures c.append_labelled-numbered.ensures c.append_labelled-owing.ensures
    c.append_labelled-switched.ensures c.append_labelled-marked.ensures c.append.ensures
