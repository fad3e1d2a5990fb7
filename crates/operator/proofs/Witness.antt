-- The script of `specs/Witness.antt`: what each call decides on the table that it meets computes.
use Rattle.std.specs.Prelude.{Some, Ok, Err}
use Prim.Native.Nat.{ℕ, ◌*◌}
use mathlib.Core.Path.{◌≡◌, refl, sym, ◌∙◌}
use mathlib.Core.List.{List, [], ◌∷◌, ◌++◌}
use mathlib.Core.Bool.{true, false, false≢true}
use native.Mathlib.Omega.{arith}
use lib.ListN.{length, take}
use borrow.Author.Tests.{le-ltb}
use Rattle.refusals.specs.declared.Refusal.TheVariants.{EmptyPath}
use Rattle.refusals.specs.Refusals.{first_cause, Result, and_then, unless}
use Rattle.paths.specs.declared.Descriptor.{Descriptor}
use Rattle.paths.specs.declared.Descriptor.TheVariants.{NoPath, Path}
use Rattle.paths.specs.Components.{same, grown, parted, pieces, without_empty, components, slashed, spell}
use Rattle.paths.specs.Resolving.{is_absolute, join, entered, enter_all, normalize, resolve, is_resolved, is_bad_directory, path_conditions}
use Rattle.paths.specs.Relations.{shared, common, depth, is_prefix, number_order, or_else, in_turn, path_order}
use Rattle.paths.specs.Giving.{path, is_path, resolved, query_of, given}
use Rattle.table.specs.declared.Kind.TheVariants.{G, P}
use Rattle.table.specs.Entries.{same_path, strictly_extends, compare_alike, granted_order, compare}
use Rattle.table.specs.Placing.{is_after, search_from, search, place_by, place, placed_at}
use Rattle.table.specs.Tables.{Table, has, set_bit, clear_bit, marked, any, every, present, marks_of, path_bytes, is_entry, is_table}
use Rattle.table.specs.Acts.{
  Act,
  insert,
  revoke,
  revoke_all,
  inserted,
  inserted_by,
  adds,
  would_add,
  has_room,
  overflows,
  kept_unless,
  without,
  dropped_by,
  apply_act,
  act_overflows,
  is_act,
  apply_acts,
}
use Rattle.table.specs.Memory.{do_acts}
use Rattle.table.specs.Carrying.{acts_of}
use Rattle.table.proofs.ActLaws.{applied-append}
use Rattle.table.proofs.StandingLaws.{all_fit, Stands, stands-then, space_of, length-space, table_memory, memory-stands}
use Rattle.records.specs.Numbers.{is_run, record_space}
use Rattle.link.specs.declared.Link.{Link}
use Rattle.link.specs.declared.Link.TheVariants.{Plain, Linked}
use Rattle.link.specs.Linking.{at_least_one, lacks_room, numbering, lacks_run, used_up, carry_cause}
use Rattle.link.specs.Steps.{Admits}
use Rattle.link.proofs.LinkLaws.{plain-admits}
use Rattle.walk.specs.declared.PermissionState.{PermissionState}
use Rattle.walk.specs.declared.PermissionState.TheVariants.{Granted, Prompt, Denied}
use Rattle.walk.specs.Walk.{
  mode_of,
  known_mode,
  matches_kind,
  matches,
  first_match,
  is_flag,
  is_flag_below,
  is_partial,
  allowed,
  decided_by,
  is_denied_mode,
  is_denied,
  without_match,
  by_match,
  query_desc,
  is_allow_all,
}
use Rattle.walk.specs.Cases.{bytes, entry}
use Rattle.deciding.specs.declared.PromptResponse.TheVariants.{Deny, Allow}
use Rattle.deciding.specs.declared.Call.{Call}
use Rattle.deciding.specs.declared.Call.TheVariants.{Check, Request}
use Rattle.deciding.specs.Decisions.{
  response_of,
  known_response,
  switch_on,
  grant_act,
  deny_act,
  answer_act,
  Decision,
  unasked,
  state_by,
  asks,
  check_mode,
  check_by,
  check_desc,
  request_by,
  request_desc,
  decide,
  revoke_act,
  revoke_desc,
}
use Rattle.calls.specs.Calls.{carried_out, answer_in, asked_in, decided_acts, settled, about}
use Rattle.operator.specs.Operator.{is_open, says_no, Answered, promised, Step, Script, start, then_call}
use Rattle.operator.specs.Operator as operator
use Rattle.operator.specs.Witness.{Line, querying, asking, revoking, line_of, lines, five, calls, Witness}
use Rattle.operator.proofs.StepLaws.{text_room, ask-on, revoke-on, query-on, words_of, no-words, asks-by, revokes-by, answered-by, shut-on}
use Rattle.calls.proofs.AnswerLaws.{asked-state, asked-told, revoked-state}

abbrev target : List ℕ
target = bytes "/a/b"

-- a step by the call that the line says, which makes these acts
record Steps (m : List ℕ) (acts : List Act) (says : Line) : Type 0 where
  step : Step promised (says_no target) m (do_acts m acts)
  is : line_of step ≡ says

-- calls with these acts, from memory with the list of five on
record Run (done : List Act) (said : List Line) : Type 0 where
  after : List ℕ
  script : Script (Step promised (says_no target)) (table_memory five) after
  says : lines script ≡ said
  stands : Stands after (apply_acts five done)

run-then : {done new : List Act} {said : List Line} {says : Line} (R : Run done said) → Steps R.after new says → all_fit (apply_acts five done) new ≡ true
    → Run (done ++ new) (said ++ says ∷ [])
unfolding lines
run-then {done} {new} R S f = record {
  after = do_acts R.after new;
  script = then_call R.script S.step;
  says = rw (R.says, S.is);
  stands = rw (applied-append five done new) (stands-then R.stands new f);
}

-- ---- each call has a step; c is what the call comes to

-- a run that is linked, and a record space
abbrev word_room : List ℕ
word_room = space_of record_space

linked-admits : Admits 1 (Linked 1) word_room
unfolding lacks_room at_least_one lacks_run is_run
linked-admits = record { roomy = le-ltb (length word_room) (record_space * 1) (omega (arith, length-space record_space)); run = refl }

module _ {m : List ℕ} {t : Table} (S : Stands m t) (d : Descriptor) (p : List ℕ) where
  module _ {link : Link} {w : List ℕ} (A : Admits 1 link w) (c : Result Decision) where
    ask-steps : (call : Call) (response : ℕ) → and_then (known_response (response_of response)) (λ known. settled call (numbering link 0) t d p [] known) ≡ c
        → Answered (says_no target) (asked_in c) (query_of d (resolve p [])) response
        → Steps m (decided_acts c) (asking link call d p response (asked_in c) (answer_in c))
    unfolding line_of
    ask-steps call response e f = record {
      step = operator.asks call link 0 w text_room (about d p []) response _ _ _ _ (asks-by (ask-on S (about d p []) A 0 call response ∙ e))
          (rw (asked-told (words_of link 0) (no-words link 0) (about d p []) c) f);
      is = rw (asked-told (words_of link 0) (no-words link 0) (about d p []) c, asked-state (words_of link 0) (no-words link 0) (about d p []) c);
    }

    revoke-steps : and_then (given d p []) (λ q. carried_out (numbering link 0) t (revoke_desc t q)) ≡ c → Steps m (decided_acts c) (revoking link d p (answer_in c))
    unfolding line_of
    revoke-steps e = record {
      step = operator.revokes link 0 w (about d p []) _ _ _ (revokes-by (revoke-on S (about d p []) A 0 ∙ e));
      is = rw (revoked-state (words_of link 0) (no-words link 0) c);
    }

  query-steps : (mode : ℕ) (r : Result PermissionState)
      → and_then (known_mode (mode_of mode)) (λ known. and_then (given d p []) (λ q. Ok (query_desc t known q))) ≡ r → Steps m [] (querying mode d p r)
  unfolding line_of do_acts
  query-steps mode r e = record { step = operator.queries mode (about d p []) r (sym (query-on S (about d p []) mode ∙ e)) refl; is = refl }

-- ---- the script

-- the acts that it makes
abbrev acts : List Act
acts =
    insert (entry P "/a") ∷ insert (entry P "/a/b") ∷ insert (entry G "/e") ∷ insert (entry G "/a/b/c") ∷ revoke (bytes "/e") ∷ revoke_all ∷ []

-- after k acts and j calls
abbrev At : ℕ → ℕ → Type 0
At k j = Run (take k acts) (take j calls)

pub not-empty : Witness
unfolding bytes entry first_cause and_then unless
    same grown parted pieces without_empty components slashed spell
    is_absolute join entered enter_all normalize resolve is_resolved is_bad_directory path_conditions
    shared common depth is_prefix number_order or_else in_turn path_order is_path resolved query_of given
    same_path strictly_extends compare_alike granted_order compare is_after search_from search place_by place placed_at
    has set_bit clear_bit marked any every present marks_of path_bytes is_entry is_table
    inserted inserted_by adds would_add has_room overflows kept_unless without dropped_by apply_act act_overflows is_act apply_acts
    acts_of numbering used_up carry_cause
    mode_of known_mode matches_kind matches first_match is_flag is_flag_below is_partial allowed decided_by is_denied_mode is_denied without_match by_match query_desc
    is_allow_all
    response_of known_response switch_on grant_act deny_act answer_act unasked state_by asks check_mode check_by check_desc request_by request_desc decide
    revoke_act revoke_desc carried_out answer_in asked_in decided_acts settled
    is_open says_no lines all_fit
not-empty = record {
  before = table_memory five;
  table = memory.table;
  shut = shut-on target memory refl;
  after = whole.after;
  script = whole.script;
  made = whole.says;
  yes = _;
  allowed =
      operator.allowed Request Plain 0 [] text_room (bytes "/e") [] 1 _ _ _ _
      (asks-by {c = Ok granted} (ask-on memory (about Path (bytes "/e") []) plain 0 Request 1))
      (record { for = refl; told = refl; answer = refl });
}
  where
    memory : Stands (table_memory five) five
    memory = memory-stands five refl

    plain : Admits 1 Plain []
    plain = plain-admits 1 []

    denied : List ℕ → Decision
    denied p = record { state = Denied; asked = true; writes = true; act = Some (insert (record { kind = P; path = p })) }

    granted : Decision
    granted = record { state = Granted; asked = true; writes = true; act = Some (insert (entry G "/e")) }

    begin : At 0 0
    begin = record { after = table_memory five; script = start; says = refl; stands = memory }

    request-above : At 0 0 → At 1 1
    request-above R =
        run-then R
        (ask-steps R.stands Path (bytes "/a") plain (Ok (denied (bytes "/a"))) Request 0 refl
        (answered-by (says_no target) (path (bytes "/a")) 0 Deny refl refl))
        refl

    check-itself : At 1 1 → At 2 2
    check-itself R =
        run-then R
        (ask-steps R.stands Path target plain (Ok (denied target)) Check 0 refl
        (answered-by (says_no target) (path target) 0 Deny refl refl))
        refl

    request-beside : At 2 2 → At 3 3
    request-beside R =
        run-then R
        (ask-steps R.stands Path (bytes "/e") plain (Ok granted) Request 1 refl
        (answered-by (says_no target) (path (bytes "/e")) 1 Allow refl refl))
        refl

    request-refused : At 3 3 → At 3 4
    request-refused R =
        run-then R (ask-steps R.stands Path [] plain (Err EmptyPath) Request 2 refl (λ e. absurd (false≢true e))) refl

    request-unasked : At 3 4 → At 3 5
    request-unasked R =
        run-then R
        (ask-steps R.stands NoPath [] linked-admits (Ok (unasked Denied false)) Request 2 refl (λ e. absurd (false≢true e)))
        refl

    check-below : At 3 5 → At 4 6
    check-below R =
        run-then R
        (ask-steps R.stands Path (bytes "/a/b/c") linked-admits
        (Ok (record { state = Granted; asked = true; writes = true; act = Some (insert (entry G "/a/b/c")) })) Check 1 refl
        (answered-by (says_no target) (path (bytes "/a/b/c")) 1 Allow refl refl))
        refl

    revoke-beside : At 4 6 → At 5 7
    revoke-beside R =
        run-then R
        (revoke-steps R.stands Path (bytes "/e") linked-admits
        (Ok (record { state = Prompt; asked = false; writes = false; act = Some (revoke (bytes "/e")) })) refl)
        refl

    revoke-every : At 5 7 → At 6 8
    revoke-every R =
        run-then R
        (revoke-steps R.stands NoPath [] plain (Ok (record { state = Denied; asked = false; writes = false; act = Some revoke_all })) refl)
        refl

    last-query : At 6 8 → At 6 9
    last-query R = run-then R (query-steps R.stands Path target 1 (Ok Denied) refl) refl

    whole : At 6 9
    whole =
        last-query (revoke-every (revoke-beside (check-below (request-unasked (request-refused (request-beside (check-itself (request-above begin))))))))
