-- Our operations meet the owner's demands: each statement by the law that the file below proves. Assumes nothing.
use mathlib.Core.Path.{◌≡◌, refl}
use mathlib.Core.List.{List}
use Prim.Native.Nat.{ℕ}
use lib.ListN.{length}
use Rattle.volume.specs.Accepted.{Accepted}
use Rattle.volume.proofs.Accepted.{accepted_done, accepted_iff, done_accepted}
use Rattle.volume.proofs.Refusals.{first_fault, verdict_placed}
use Rattle.sheet.specs.Flat.{reels_number}
use Rattle.content.specs.Found.{part_of}
use Rattle.content.proofs.Shown.{items_met}
use Rattle.writing.specs.Rewrite.{sheet_from}
use Rattle.writing.proofs.RoundTrip.{write_reads_back}
use Rattle.demands.specs.Operations.{ours}
use Rattle.demands.specs.Terms.{Fits}
use Rattle.demands.proofs.Refusals.{begin_refused, search_refused, find_refused, step_refused, steps_none, by_reader, no_facts, list_refused, write_refused, rewrite_refused, import_refused, export_refused}
use Rattle.demands.proofs.Records.{file_given, no_file, first_begun, further_begun, steps_listed, set_listed, none_begun, none_found, none_listed, none_rewritten}
use Rattle.demands.proofs.Normal.{write_done, write_outcome, rewrite_outcome, rewrite_done, rewrite_means, rewrite_again, equal_images}
use Rattle.demands.specs.Demands.{Demand1, Demand2, Normal, Demand3}

pub demand_1 : Demand1 ours
unfolding part_of
demand_1 =
    record {
      check = verdict_placed;
      begin = begin_refused;
      first = λ s. search_refused _;
      further = λ s a b. search_refused _;
      find = find_refused;
      step = step_refused;
      steps = steps_none;
      reader = by_reader;
      part = λ s join v. refl;
      facts = no_facts;
      list = list_refused;
      write = write_refused;
      rewrite = rewrite_refused;
      import = import_refused;
      export = export_refused;
    }

pub demand_2 : Demand2 ours
demand_2 =
    record {
      accepted = λ s. (done_accepted s, accepted_done s);
      first_wrong = λ s out. first_fault s (λ z. out ((accepted_iff s).0 z));
      whole =
          λ s out. record { begin = none_begun s out; find = none_found s out; list = none_listed s out; rewrite = none_rewritten s out };
      files = file_given;
      no_file = no_file;
      begin = λ s n. refl;
      first = first_begun;
      further = further_begun;
      items = items_met;
      item = λ s at g. refl;
      field = λ family number byte. refl;
      step = λ s w old. refl;
      steps = λ s w places lengths. steps_listed s w places lengths;
      facts = λ s w. refl;
      part = λ s join x. refl;
      listed = set_listed;
      written = write_done;
      outcome = write_outcome;
      reads_back = write_reads_back;
      rewritten = rewrite_outcome;
      converted = λ tape lengths s out list. (refl, refl);
    }

normal : (s : List ℕ) (quota : ℕ) (names o : List ℕ) → Accepted s → reels_number quota names ≡ 0
    → Fits (sheet_from s quota names) (length o) → Normal ours s quota names o
normal s quota names o a l f =
    record { done = rewrite_done s quota names o a l f; means = rewrite_means s quota names o a l f; again = rewrite_again s quota names o a l f }

pub demand_3 : Demand3 ours
demand_3 =
    record { normal = λ a b quota names o q x y l f g. (normal a quota names o x l f, normal b quota names q y l g, equal_images a b quota names o q x y l f g) }
