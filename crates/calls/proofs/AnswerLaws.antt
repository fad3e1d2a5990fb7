-- What the code answers of a call, by what the call comes to: it says that, and of a refused call no text and no words. `size` says how many words the records of
-- acts take.
use Rattle.std.specs.Prelude.{Ok, Err}
use Prim.Native.Nat.{ℕ}
use mathlib.Core.Path.{◌≡◌, refl}
use mathlib.Core.List.{List, []}
use lib.ListN.{length}
use Rattle.refusals.specs.Refusals.{Result, cause_of}
use Rattle.table.specs.Acts.{Act}
use Rattle.link.specs.Linking.{single_act}
use Rattle.link.specs.Sending.{sent_words}
use Rattle.deciding.specs.Decisions.{Decision}
use Rattle.calls.specs.declared.Asked.{Asked}
use Rattle.calls.specs.declared.Revoked.{Revoked}
use Rattle.calls.specs.Calls.{
  answer_in,
  asked_in,
  decided_acts,
  text_in,
  About,
  text_due,
  answered,
  told,
  text_size,
  words_in,
  revoked_answer,
  revoked_words,
}

module _ (size : List Act → ℕ) (none : 0 ≡ size []) where
  -- ---- check and request

  abbrev pub asked_by : Result Decision → About → Result Asked
  asked_by (Err cause) a = Err cause
  asked_by (Ok decision) a = Ok (record {
    state = decision.state;
    asked = decision.asked;
    text = length (text_due (Ok decision) a);
    words = size (decided_acts (Ok decision));
  })

  module _ (a : About) where
    pub asked-state : (c : Result Decision) → answered (asked_by c a) ≡ answer_in c
    unfolding answer_in
    asked-state (Err cause) = refl
    asked-state (Ok decision) = refl

    pub asked-told : (c : Result Decision) → told (asked_by c a) ≡ asked_in c
    unfolding asked_in
    asked-told (Err cause) = refl
    asked-told (Ok decision) = refl

    pub asked-text : (c : Result Decision) → text_size (asked_by c a) ≡ length (text_due c a)
    unfolding text_in text_due
    asked-text (Err cause) = refl
    asked-text (Ok decision) = refl

    pub asked-words : (c : Result Decision) → words_in (asked_by c a) ≡ size (decided_acts c)
    unfolding decided_acts
    asked-words (Err cause) = none
    asked-words (Ok decision) = refl

  -- ---- revoke

  abbrev pub revoked_by : Result Decision → Result Revoked
  revoked_by (Err cause) = Err cause
  revoked_by (Ok decision) = Ok (record { state = decision.state; words = size (decided_acts (Ok decision)) })

  pub revoked-state : (c : Result Decision) → revoked_answer (revoked_by c) ≡ answer_in c
  unfolding answer_in
  revoked-state (Err cause) = refl
  revoked-state (Ok decision) = refl

  pub revoked-words : (c : Result Decision) → revoked_words (revoked_by c) ≡ size (decided_acts c)
  unfolding decided_acts
  revoked-words (Err cause) = none
  revoked-words (Ok decision) = refl

  -- ---- insert and switches

  abbrev pub sent_by : Result Act → Result ℕ
  sent_by (Err cause) = Err cause
  sent_by (Ok act) = Ok (size (single_act (Ok act)))

  pub sent-cause : (c : Result Act) → cause_of (sent_by c) ≡ cause_of c
  unfolding cause_of
  sent-cause (Err cause) = refl
  sent-cause (Ok act) = refl

  pub sent-size : (c : Result Act) → sent_words (sent_by c) ≡ size (single_act c)
  unfolding single_act
  sent-size (Err cause) = none
  sent-size (Ok act) = refl
