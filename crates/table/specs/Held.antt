-- An entry of the code as an entry of the definitions.
use Rattle.table.specs.declared.held.Entry as code
use Rattle.table.specs.Entries.{Entry}

abbrev pub entry_of : code.Entry → Entry
entry_of e = record { kind = e.kind; path = e.path.now }
