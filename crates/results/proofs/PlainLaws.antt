-- A plain export lends a number of its own and no words: what it promises is about memory alone, and no word holds a record.
use Prim.Native.Nat.{ℕ}
use Rattle.refusals.specs.Refusals.{Result}
use mathlib.Core.Path.{◌≡◌, sym}
use mathlib.Core.List.{List}
use lib.IntN.{ℤ}
use Rattle.table.specs.Acts.{Act}
use Rattle.link.specs.declared.Link.TheVariants.{Plain}
use Rattle.link.specs.Sending.{changes_of, Lent, alone, Sends}
use Rattle.records.specs.Records.{all_words}
use Rattle.deciding.specs.declared.Call.{Call}
use Rattle.items.specs.Items.{ItemList}
use Rattle.calls.specs.Calls.{About, Asks, Revokes}
use Rattle.calls.specs.Changes.{SetsSwitches, Inserts}
use Rattle.calls.proofs.PlainLaws.{switches-alone, insert-alone, ask-alone, revoke-alone}
use Rattle.child.specs.Calls.{CreatesChild}
use Rattle.child.proofs.PlainLaws.{child-alone}
use Rattle.results.specs.Numbers.{outcome_number}
use Rattle.results.specs.Exports.{ExportedSent, ExportedAsk, ExportedRevoke, ExportedChild}

no_words : {acts : List Act} {l l' : Lent} {k : ℕ} → Sends Plain acts l l' k → 0 ≡ k
unfolding changes_of all_words
no_words S = sym S.count

pub switches-plainly : (l : Lent) (v : ℕ) {l' : Lent} {s : Result ℕ} {r : ℤ} → SetsSwitches Plain l v l' s → r ≡ outcome_number s
    → ExportedSent (SetsSwitches Plain (alone l.memory) v (alone l'.memory)) 0 r
switches-plainly l v S e = record { answered = _; promise = switches-alone l v S; number = e; words = no_words S.sends }

pub insert-plainly : (l : Lent) (kind : ℕ) (p cwd : List ℕ) {l' : Lent} {s : Result ℕ} {r : ℤ} → Inserts Plain l kind p cwd l' s → r ≡ outcome_number s
    → ExportedSent (Inserts Plain (alone l.memory) kind p cwd (alone l'.memory)) 0 r
insert-plainly l kind p cwd I e = record { answered = _; promise = insert-alone l kind p cwd I; number = e; words = no_words I.sends }

pub ask-plainly : {call : Call} {l : Lent} {s : List ℕ} {a : About} {response : ℕ} {l' : Lent} {s' : List ℕ} {told size k : ℕ} {r : ℤ}
    → ExportedAsk (Asks call Plain l s a response l' s') told size k r
    → ExportedAsk (Asks call Plain (alone l.memory) s a response (alone l'.memory) s') told size 0 r
ask-plainly E = record {
  answered = E.answered;
  promise = ask-alone E.promise;
  number = E.number;
  asked = E.asked;
  text = E.text;
  words = no_words E.promise.sends;
}

pub revoke-plainly : {l : Lent} {a : About} {l' : Lent} {k : ℕ} {r : ℤ} → ExportedRevoke (Revokes Plain l a l') k r
    → ExportedRevoke (Revokes Plain (alone l.memory) a (alone l'.memory)) 0 r
revoke-plainly E = record { answered = E.answered; promise = revoke-alone E.promise; number = E.number; words = no_words E.promise.sends }

pub child-plainly : {l : Lent} {c : List ℕ} {code : ℕ} {list : ItemList} {cwd : List ℕ} {l' : Lent} {c' : List ℕ} {told k : ℕ} {r : ℤ}
    → ExportedChild (CreatesChild Plain l c code list cwd l' c') told k r
    → ExportedChild (CreatesChild Plain (alone l.memory) c code list cwd (alone l'.memory) c') told 0 r
child-plainly E = record {
  answered = E.answered;
  promise = child-alone E.promise;
  number = E.number;
  asked = E.asked;
  words = no_words E.promise.sends;
}
