-- How the places that the code keeps stand for contents: a label is the 80 bytes at its place, and no label yet is a place past
-- the end.
use Rattle.std.specs.Prelude.{List, ℕ}
use Rattle.base.specs.Part.{part}
use Rattle.volume.specs.State.{State}
use Rattle.volume.specs.Fault.{names_at}
use Rattle.volume.specs.declared.Reading.{Reading}

-- the label at a place of image s
unfoldable pub label_at : List ℕ → ℕ → List ℕ
label_at s a = part a 80 s

-- what a reading knows, with the names of the volumes read before it at these places
unfoldable pub contents : List ℕ → List ℕ → Reading → State
contents s places r =
    record {
      phase = r.phase;
      volumes = names_at s places;
      files = r.files;
      continues = r.continues;
      hdr1 = label_at s r.hdr1;
      hdr2 = label_at s r.hdr2;
      count = r.count;
      pending = r.pending;
    }
