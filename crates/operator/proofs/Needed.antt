-- Each premise is needed: the smallest calls that open `/a` without it, on a table with switch 16 alone or on a fresh one.
use Rattle.std.specs.Prelude.{Some, Ok}
use Prim.Native.Nat.{ℕ}
use mathlib.Core.Path.{◌≡◌, refl, ◌∙◌}
use mathlib.Core.List.{List, [], ◌∷◌}
use mathlib.Core.Bool.{true}
use Rattle.refusals.specs.Refusals.{first_cause, Result, and_then, unless, cause_of}
use Rattle.paths.specs.declared.Descriptor.TheVariants.{NoPath, Path}
use Rattle.paths.specs.Components.{same, grown, parted, pieces, without_empty, components, slashed, spell}
use Rattle.paths.specs.Resolving.{is_absolute, join, entered, enter_all, normalize, resolve, is_resolved, is_bad_directory, path_conditions}
use Rattle.paths.specs.Copying.{begun}
use Rattle.paths.specs.Relations.{shared, common, depth, is_prefix}
use Rattle.paths.specs.Giving.{is_path, resolved, query_of, given}
use Rattle.table.specs.declared.Kind.TheVariants.{G}
use Rattle.table.specs.Entries.{kind_of, known_kind, same_path}
use Rattle.table.specs.Placing.{place, placed_at}
use Rattle.table.specs.Tables.{fresh, has, set_bit, marked, any, every, present, marks_of, path_bytes, is_entry, is_table}
use Rattle.table.specs.Acts.{
  Act,
  insert,
  set_switches,
  inserted,
  inserted_by,
  adds,
  would_add,
  has_room,
  overflows,
  apply_act,
  act_overflows,
  is_act,
  apply_acts,
}
use Rattle.table.specs.Memory.{do_acts}
use Rattle.table.specs.Carrying.{acts_of}
use Rattle.table.proofs.StandingLaws.{all_fit, table-in, table_memory, memory-stands}
use Rattle.records.specs.Records.{all_words}
use Rattle.link.specs.declared.Link.TheVariants.{Plain}
use Rattle.link.specs.Linking.{lacks_room, room_in, numbering, lacks_run, run_in, used_up, carry_cause, carried, single_act}
use Rattle.link.specs.Sending.{changes_of, alone, Does}
use Rattle.link.proofs.LinkLaws.{plain-admits}
use Rattle.walk.specs.declared.PermissionState.TheVariants.{Granted}
use Rattle.walk.specs.Walk.{
  matches_kind,
  matches,
  first_match,
  is_flag,
  is_flag_below,
  is_partial,
  allowed,
  decided_by,
  is_denied_mode,
  is_denied,
  without_match,
  by_match,
  query_desc,
}
use Rattle.walk.specs.Cases.{bytes, entry}
use Rattle.deciding.specs.declared.PromptResponse.{PromptResponse}
use Rattle.deciding.specs.declared.PromptResponse.TheVariants.{Allow, AllowAll}
use Rattle.deciding.specs.declared.Call.TheVariants.{Request}
use Rattle.deciding.specs.Decisions.{response_of, known_response, switch_on, grant_act, answer_act, Decision, state_by, asks, request_by, request_desc, decide}
use Rattle.calls.specs.Calls.{carried_out, decided_acts, settled, About, about}
use Rattle.calls.specs.Changes.{known_switches, switches_call, insert_call}
use Rattle.operator.specs.Operator.{is_open, Operator, promised, Step}
use Rattle.operator.specs.Operator as operator
use Rattle.operator.specs.Needed.{allows_above, allows_no_path, allows_all, OrInserts, inserts, OrSwitches, switches, Opens, Needed, EachNeeded}
use Rattle.operator.proofs.OpenLaws.{IsShut, IsOpen}
use Rattle.operator.proofs.StepLaws.{prompting, text_room, ask-on, asks-by, answered-by, opens_by, opens-unkept}

needed : {Next : List ℕ → List ℕ → List ℕ → Type 0} → Opens Next → Needed Next
needed O = (O, opens-unkept O)

-- a yes, with the act that it makes
abbrev yes : Act → Decision
yes act = record { state = Granted; asked = true; writes = true; act = Some act }

-- a plain request that asks, and is answered the yes that the number names
request-opens : (may : List ℕ → Operator) (a : About) (response : ℕ) (answer : PromptResponse) (act : Act)
    → is_table prompting ≡ true
    → and_then (known_response (response_of response)) (λ known. settled Request (numbering Plain 0) prompting a.descriptor a.given a.cwd known)
    ≡ Ok (yes act)
    → decided_acts (Ok (yes act)) ≡ act ∷ []
    → response_of response ≡ Some answer
    → may (bytes "/a") (query_of a.descriptor (resolve a.given a.cwd)) answer ≡ true
    → IsShut prompting (bytes "/a")
    → all_fit prompting (act ∷ []) ≡ true
    → IsOpen (apply_acts prompting (act ∷ [])) (bytes "/a")
    → Needed (λ p. Step promised (may p))
request-opens may a response answer act v comes acts known allows shut fits opened =
    let asked = asks-by (ask-on (memory-stands prompting v) a (plain-admits 1 []) 0 Request response ∙ comes) in
    let step : Step promised (may (bytes "/a")) (table_memory prompting) (do_acts (table_memory prompting) (act ∷ [])) =
    operator.asks Request Plain 0 [] text_room a response _ _ _ _ (rw acts at asked)
    (answered-by (may (bytes "/a")) (query_of a.descriptor (resolve a.given a.cwd)) response answer known allows)
    in
    needed (opens_by (bytes "/a") prompting (act ∷ []) v shut fits opened step)

-- a plain call that makes one act
abbrev done : Result ℕ
done = Ok 0

does-on : {call : Result Act} {m : List ℕ} {act : Act} → call ≡ Ok act → Does Plain call (alone m) (alone (do_acts m (act ∷ []))) done
unfolding cause_of single_act changes_of all_words begun
does-on e = rw e (record { outcome = refl; sends = record { memory = refl; number = refl; words = refl; count = refl } })

pub each_needed : EachNeeded
unfolding bytes entry first_cause and_then unless
    same grown parted pieces without_empty components slashed spell
    is_absolute join entered enter_all normalize resolve is_resolved is_bad_directory path_conditions shared common depth is_prefix is_path resolved query_of given
    kind_of known_kind same_path place placed_at has set_bit marked any every present marks_of path_bytes is_entry is_table
    inserted inserted_by adds would_add has_room overflows apply_act act_overflows is_act apply_acts
    acts_of lacks_room room_in numbering lacks_run run_in used_up carry_cause carried
    matches_kind matches first_match is_flag is_flag_below is_partial allowed decided_by is_denied_mode is_denied without_match by_match query_desc
    response_of known_response switch_on grant_act answer_act state_by asks request_by request_desc decide
    carried_out decided_acts settled known_switches switches_call insert_call
    is_open allows_above allows_no_path allows_all all_fit
each_needed = record {
  -- Allow for `/`
  never_prefix = request-opens allows_above (about Path (bytes "/") []) 1 Allow (insert (entry G "/")) refl refl refl refl refl refl refl refl;
  -- Allow for the call with no path
  never_no_path = request-opens allows_no_path (about NoPath [] []) 1 Allow (set_switches 17) refl refl refl refl refl refl refl refl;
  -- AllowAll for `/b`, which has nothing to do with `/a`
  never_all = request-opens allows_all (about Path (bytes "/b") []) 2 AllowAll (set_switches 17) refl refl refl refl refl refl refl refl;
  -- G for `/a`
  no_insert =
      needed (opens_by {Next = OrInserts} (bytes "/a") fresh (insert (entry G "/a") ∷ []) refl refl refl refl
      (inserts 0 (bytes "/a") [] done (does-on (rw (table-in (memory-stands fresh refl))))));
  -- switch 1
  no_switches =
      needed (opens_by {Next = OrSwitches} (bytes "/a") fresh (set_switches 1 ∷ []) refl refl refl refl
      (switches 1 done (does-on (rw (table-in (memory-stands fresh refl))))));
}
