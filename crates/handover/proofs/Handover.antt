-- Demand 3, with nothing assumed.
use mathlib.Core.Path.{refl, sym, ◌∙◌}
use mathlib.Core.List.{Memᴰ}
use native.Mathlib.Omega.{arith}
use Rattle.walk.proofs.QueryLaws.{query-same}
use Rattle.standby.specs.Owing.{owed_of}
use Rattle.standby.proofs.ArrivingLaws.{no-conflict}
use Rattle.standby.proofs.OwingLaws.{owed-in, owed-behind, owing-exact}
use Rattle.handover.specs.Handover.{Message, Demand3}
use Rattle.handover.proofs.SequenceLaws.{within-reach}
use Rattle.handover.proofs.CameLaws.{arrived-sent}
use Rattle.handover.proofs.JudgedLaws.{reached-some, reached-most}
use Rattle.handover.proofs.MainLaws.{present-in, main-is}
use Rattle.handover.proofs.SentLaws.{Genuine, genuine, no-nought}
use Rattle.handover.proofs.StandbyLaws.{standby-is, opened, before-opened}
use Rattle.handover.proofs.OwedLaws.{met-made, none-owed}

pub handover : Demand3
handover a runs sent wrote s came answers r R Q O =
    let M = main-is R in
    let S = standby-is (genuine M) Q in
    let arrived : (m : Message) → Memᴰ m came → Genuine runs m = λ m x. genuine M m (arrived-sent Q m x) in
    record {
      run = opened S;
      before = before-opened S (no-nought (M.each 0).recorded);
      holding = S.stands.holding;
      table = rw S.run S.stands.table;
      same-run = sym S.run;
      reached = rw S.run S.stands.reached;
      greatest = λ k I. omega (arith, within-reach I, S.stands.number);
      reached-so = rw S.run (reached-some S.stands.reached);
      greatest-so = λ k K. omega (arith, reached-most (rw S.run at K), S.stands.number);
      queries = λ m h t. query-same s.memory m S.stands.holding h (rw S.run S.stands.table ∙ sym t);
      unrefused = S.unrefused;
      main = λ present earlier e. present-in (rw e at M.present);
      records = λ q. (M.each q).records;
      images = λ i m. (M.images i m).is;
      written = M.written;
      highest = S.met.run;
      met = S.met.number;
      made = met-made arrived S.met;
      owed = owed_of s.numbers;
      report = O ∙ sym (owing-exact s.numbers (no-conflict s.numbers S.agrees) refl);
      exact = λ e. omega (arith, owed-in s.numbers e, S.agrees.ordered e);
      all = owed-behind s.numbers;
      none = none-owed arrived (opened S) S.met S.agrees;
    }
