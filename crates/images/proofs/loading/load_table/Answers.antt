use mathlib.Core.Path.{sym, ◌∙◌}
use native.Mathlib.Omega.{arith}
use lib.Seq.{length-take-le}
use Rattle.images.proofs.ReadingLaws.{told}
use Rattle.images.proofs.LoadingLaws.{loading-start, path-stands, loading-some, loading-fits, loading-next, loading-over, loaded, few-read}
use Rattle.images.proofs.loading.load_table.Goals as goal

pub loop-init : goal.loop-init
loop-init c = λ R. loading-start R _ c.requires.table_bytes_in_bounds

-- an entry is always read
pub unwrap-entry-requires : goal.unwrap-entry-requires
unwrap-entry-requires c =
    loading-some (c.loop.invariant c.requires.read) c.loop-test.true c.read_entry.ensures.answer

-- the entry that was read, and its path in the space
pub slice_bounds-space-end : goal.slice_bounds-space-end
slice_bounds-space-end c = omega (arith, (told _ _ (sym c.unwrap-entry.ensures ∙ c.read_entry.ensures.answer)).short)

pub slice_bounds-append_entry-end : goal.slice_bounds-append_entry-end
slice_bounds-append_entry-end c = sym (length-take-le _ _ (omega (arith, (told _ _ (sym c.unwrap-entry.ensures ∙ c.read_entry.ensures.answer)).short)))

pub append_entry-at-requires : goal.append_entry-at-requires
append_entry-at-requires c =
    let E = told _ _ (sym c.unwrap-entry.ensures ∙ c.read_entry.ensures.answer) in
    let fits = loading-fits (c.loop.invariant c.requires.read) c.loop-test.true E in
    rw (path-stands E _ c.read_entry.ensures.bytes).is (omega (arith, E.size, E.short), fits)

pub loop-preserved : goal.loop-preserved
loop-preserved c =
    let E = told _ _ (sym c.unwrap-entry.ensures ∙ c.read_entry.ensures.answer) in
    λ R. loading-next (c.loop.invariant R) c.loop-test.true E (path-stands E _ c.read_entry.ensures.bytes).is c.append_entry-at.ensures c.append_entry-at.auto.mem

pub write_head-requires : goal.write_head-requires
write_head-requires c =
    let p = c.requires in
    let few = few-read _ p.read in
    (omega arith, omega (arith, (c.loop.invariant p.read).same, p.table_bytes_in_bounds))

pub returns : goal.returns
returns c =
    let p = c.requires in
    loaded _ p.read p.table_bytes_in_bounds (loading-over (c.loop.invariant p.read) (omega arith)) c.write_head.ensures
