-- The owner's three demands, in his words and as statements about any operations. `Met.antt` proves that ours meet them,
-- `Wrong.antt` that wrong ones do not; `Terms.antt` has the words that are used here, `Witness.antt` a set of which every
-- condition holds.
use Rattle.std.specs.Prelude.{◌≡◌, ◌↔◌, List, [], ◌∷◌, ◌++◌, ℕ, ◌+◌, ◌≤◌, min, length, take, Err, Result}
use Rattle.content.specs.declared.Found.{Found}
use Rattle.base.specs.Answer.{verdict}
use Rattle.base.specs.declared.Verdict.{Verdict}
use Rattle.image.specs.Framing.{framing, items}
use Rattle.order.specs.Kind.{kind}
use Rattle.order.specs.Group.{among_labels}
use Rattle.label.specs.Judged.{field_with}
use Rattle.output.specs.Output.{Written, fitted, placed, image_in}
use Rattle.simh.specs.Set.{tape_verdict, from_simh, to_simh}
use Rattle.volume.specs.State.{start}
use Rattle.volume.specs.Accepted.{Accepted, FirstFault, Placed}
use Rattle.volume.specs.Meaning.{File, content, Means}
use Rattle.sheet.specs.Flat.{Flat, reels_number, sheet_of, sheet_number}
use Rattle.content.specs.Walk.{step_at, join_at}
use Rattle.content.specs.Row.{stays}
use Rattle.content.specs.File.{begun_at}
use Rattle.content.specs.Items.{item_at, Met}
use Rattle.content.specs.Found.{part_of}
use Rattle.content.specs.Records.{records_at, facts_of}
use Rattle.content.specs.Numbers.{beginning_of, stepped_of}
use Rattle.content.specs.declared.Walk.{Walk}
use Rattle.listing.specs.Text.{listing_of, refusal_line}
use Rattle.writing.specs.Rewrite.{sheet_from}
use Rattle.demands.specs.Operations.{listing, Operations}
use Rattle.demands.specs.Terms.{Answered, none_given, OutOf, no_record, row_by, FileGiven, ByReader, Fits, WriteOutcome}

-- "1. Any bytes, any numbers: every operation ends and answers by itself, without asking the caller to have checked anything."
-- An operation is a function of lists and numbers, and no public function has a `requires`.
pub record Demand1 (p : Operations) : Type 0 where
  -- "Each refusal has its number and place, and changes no byte of a lent buffer." Reading: 1 to 9, with the byte of a field for
  -- 4, 5 and 6 and none for another; the item is below, in `first_wrong`. All others: the verdict on what was given, or a number
  -- without a place, and nothing is handed out, moved or written.
  -- Ruled out: a writer that fails half way through its buffer (`half_way`), a step that refuses and has moved the walk
  -- (`moves_and_refuses`), a number that no table has (`unknown_number`).
  pub check : (s : List ℕ) → Placed (p.check s).number (p.check s).byte
  pub begin : (s : List ℕ) (n : ℕ)
      → Answered (p.check s) (13 ∷ []) (p.begin s n).verdict (p.begin s n ≡ beginning_of (Err (p.begin s n).verdict))
  pub first : (s : List ℕ)
      → Answered none_given (13 ∷ []) (p.first s).verdict (p.first s ≡ beginning_of (Err (p.first s).verdict))
  pub further : (s : List ℕ) (a b : ℕ)
      → Answered none_given (13 ∷ []) (p.further s a b).verdict
      (p.further s a b ≡ beginning_of (Err (p.further s a b).verdict))
  pub find : (s : List ℕ) (n r : ℕ) (old : List ℕ)
      → Answered (p.check s) (13 ∷ 10 ∷ []) (p.find s n r old).at.verdict
      (p.find s n r old ≡ no_record (p.find s n r old).at.verdict old)
  pub step : (s : List ℕ) (w : Walk) (old : List ℕ)
      → Answered none_given (13 ∷ 10 ∷ []) (verdict (p.step s w old).answer.number 0 0)
      (p.step s w old ≡ record { answer = stepped_of w (Err (p.step s w old).answer.number); left = old })
  -- Steps at once give no number: where none is taken the walk and both lists stay. Ruled out: one that shortens the lists to
  -- what it found (`shortens`).
  pub steps : (s : List ℕ) (w : Walk) (places lengths : List ℕ) → (p.steps s w places lengths).answer.count ≡ 0
      → p.steps s w places lengths ≡ listing places lengths (stays w)
  pub reader : ByReader p
  pub part : (s join : List ℕ) (v : Verdict) → p.part s join (Err v) ≡ []
  pub facts : (s : List ℕ) (n : ℕ) → ((p.begin s n).verdict.number ≡ 0 → ⊥) → p.facts s (p.begin s n).walk ≡ facts_of []
  pub list : (s out : List ℕ)
      → Answered none_given (10 ∷ []) (verdict (p.list s out).number 0 0) (((p.list s out).len ≡ 0) × ((p.list s out).out ≡ out))
  pub write : (x : Flat) (out : List ℕ)
      → Answered none_given (9 ∷ 11 ∷ 12 ∷ 14 ∷ 10 ∷ []) (verdict (p.write x out).number 0 0)
      (((p.write x out).len ≡ 0) × ((p.write x out).out ≡ out))
  pub rewrite : (s : List ℕ) (quota : ℕ) (names out : List ℕ)
      → Answered (p.check s) (9 ∷ 11 ∷ 12 ∷ 14 ∷ 10 ∷ []) (p.rewrite s quota names out).verdict
      (((p.rewrite s quota names out).len ≡ 0) × ((p.rewrite s quota names out).out ≡ out))
  pub import : (tape lengths out : List ℕ)
      → Answered (tape_verdict tape lengths) (14 ∷ 10 ∷ []) (p.import tape lengths out).verdict
      (((p.import tape lengths out).len ≡ 0) × ((p.import tape lengths out).out ≡ out))
  pub export : (s out lengths : List ℕ)
      → Answered (framing s) (10 ∷ []) (p.export s out lengths).verdict
      (p.export s out lengths
      ≡ record { verdict = (p.export s out lengths).verdict; len = 0; files = 0; out = out; lengths = lengths })

-- "A set is accepted whole or not at all": of a refused image beginning a file, asking for a record and rewriting answer with its
-- verdict, and the listing is its line. (A step, facts and a part have no place for a verdict: they need a walk or a record that
-- was found. Export goes by the framing alone, as document 02 has it.) Ruled out: a reader that hands over what came before the
-- fault (`hands_over`).
pub record NotAtAll (p : Operations) (s : List ℕ) : Type 0 where
  pub begin : (n : ℕ) → p.begin s n ≡ beginning_of (Err (p.check s))
  pub find : (n r : ℕ) (old : List ℕ) → p.find s n r old ≡ no_record (p.check s) old
  pub list : (out : List ℕ) → p.list s out ≡ fitted (refusal_line (p.check s)) out
  pub rewrite : (quota : ℕ) (names out : List ℕ)
      → p.rewrite s quota names out ≡ record { verdict = p.check s; len = 0; out = out }

pub record Demand2 (p : Operations) : Type 0 where
  -- "2. A set is accepted exactly when its image, labels, marks, blocks and cross-checks follow ECMA-13, fourth edition, as cut
  -- down in document 01;" Ruled out: a checker that refuses all sets (`refuses_all`), or accepts all (`accepts_all`), or names a
  -- later item (`later_fault`).
  pub accepted : (s : List ℕ) → (p.check s ≡ verdict 0 0 0) ↔ Accepted s
  pub first_wrong : (s : List ℕ) → (Accepted s → ⊥) → FirstFault s (p.check s)
  pub whole : (s : List ℕ) → (Accepted s → ⊥) → NotAtAll p s
  -- "the records handed out are exactly those it holds, in order." Each file of the meaning by its number, with its records by a
  -- walk and by number; 13 for any other. The definitions that the promises cite decide where a file stands and, from any walk
  -- whatever, what a step gives. Ruled out: a walk that stays at the first record (`stands_still`), one file for another (the
  -- edit `first_file_for_each`), a buffer asked for where the record is one unit (`joins_all`), a step that hands out all of an
  -- image, whatever it is (`hands_over_all`).
  pub files : (s : List ℕ) (ds : List File) (d : File) (es : List File) → Accepted s → (content s).files ≡ ds ++ (d ∷ es)
      → FileGiven p s (length ds + 1) d
  pub no_file : (s : List ℕ) (n : ℕ) → Accepted s → OutOf (length (content s).files) n
      → (p.begin s n ≡ beginning_of (Err (verdict 13 0 0)))
      × ((r : ℕ) (old : List ℕ) → p.find s n r old ≡ no_record (verdict 13 0 0) old)
  pub begin : (s : List ℕ) (n : ℕ) → p.begin s n ≡ beginning_of (begun_at s n)
  -- From file to file it is the same way as by their numbers. Ruled out: a search that stays at its file (`same_file_again`).
  pub first : (s : List ℕ) → Accepted s → p.first s ≡ p.begin s 1
  pub further : (s : List ℕ) (n : ℕ) → (p.begin s n).verdict.number ≡ 0
      → p.further s (p.begin s n).hdr1 (p.begin s n).hdr2 ≡ p.begin s (n + 1)
  -- From item to item these are the items of the set, each of the kind by which it was judged; on any bytes the definition
  -- decides, and which field holds a byte, the tables of the labels.
  pub items : (s : List ℕ) → Accepted s → Met (p.item s) s 5 among_labels start (items s)
  pub item : (s : List ℕ) (at g : ℕ) → p.item s at g ≡ item_at s at g
  pub field : (family number byte : ℕ) → p.field family number byte ≡ field_with (kind family number) byte
  pub step : (s : List ℕ) (w : Walk) (old : List ℕ)
      → p.step s w old ≡ record { answer = stepped_of w (step_at s (length old) w); left = join_at s old w }
  -- Steps at once are steps one by one, as many as both lists have room for, up to the first that gives no part of the image:
  -- they put these parts, and nothing else, at the front of the lists.
  -- Ruled out: one that takes no step (`takes_none`).
  pub steps : (s : List ℕ) (w : Walk) (places lengths : List ℕ)
      → p.steps s w places lengths ≡ listing places lengths (row_by p s (min (length places) (length lengths)) w)
  pub facts : (s : List ℕ) (w : Walk) → p.facts s w ≡ facts_of (records_at s w)
  pub part : (s join : List ℕ) (x : Result Found Verdict) → p.part s join x ≡ part_of s join x
  pub listed : (s out : List ℕ) → Accepted s → p.list s out ≡ fitted (listing_of (content s)) out
  -- "The reel writer turns any order sheet that it doesn't refuse into the image fixed there, which reads back as an accepted set
  -- with that sheet's meaning." It does not refuse a legal one whose image has room. Ruled out: an idle writer (`idle`), one that
  -- refuses all (`refuses_sheets`), a made-up trailer count (`made_up_count`), 10 for every refusal (`ten_for_all`).
  pub written : (x : Flat) (out : List ℕ) → sheet_number x ≡ 0 → Fits (sheet_of x) (length out) → (p.write x out).number ≡ 0
  pub outcome : (x : Flat) (out : List ℕ) → WriteOutcome (sheet_number x) (sheet_of x) out (p.write x out)
  pub reads_back : (x : Flat) (out : List ℕ) → (p.write x out).number ≡ 0
      → Means (take (p.write x out).len (p.write x out).out) (sheet_of x).meaning
  -- "Document 01 defines meaning and rewriting": the writer on the sheet with the set's meaning. Ruled out: a rewriter that fills
  -- the buffer behind its image (`fills_behind`).
  pub rewritten : (s : List ℕ) (quota : ℕ) (names out : List ℕ) → Accepted s
      → (w : Written) × WriteOutcome (reels_number quota names) (sheet_from s quota names) out w
      × (p.rewrite s quota names out ≡ placed w)
  -- Document 02, P1: conversion is the definition; Requests.antt has what follows from it.
  pub converted : (tape lengths s out list : List ℕ)
      → (p.import tape lengths out ≡ from_simh tape lengths out) × (p.export s out list ≡ to_simh s out list)

-- One accepted set rewritten into buffer o.
pub record Normal (p : Operations) (s : List ℕ) (quota : ℕ) (names o : List ℕ) : Type 0 where
  -- "Then rewriting refuses neither set, whatever the buffers lent to write into held before." Ruled out: a rewriter that says 12
  -- always (`twelve`), or 10 where the buffer begins with 0 (`ten_at_zero`).
  pub done : (p.rewrite s quota names o).verdict ≡ verdict 0 0 0
  -- "Each written image is an accepted set with the same meaning, records included, as the set it was written from." Ruled out:
  -- one fixed set (`fixed`).
  pub means : Means (image_in (p.rewrite s quota names o)) (content s)
  -- "Each written image, rewritten with that quota and list into another buffer with room enough, gives the same image again,
  -- byte for byte." (With `rewritten` above that follows from `done` and the equality below.)
  pub again : (other : List ℕ) → length (image_in (p.rewrite s quota names o)) ≤ length other
      → ((p.rewrite (image_in (p.rewrite s quota names o)) quota names other).verdict ≡ verdict 0 0 0)
      × (image_in (p.rewrite (image_in (p.rewrite s quota names o)) quota names other) ≡ image_in (p.rewrite s quota names o))

-- "3. One meaning, one normal set. Take any two accepted sets, whatever their images hold beyond their meanings. Take any legal
-- reel quota and any legal list of reel names, the same for both, with reels and room enough for each, and neither written image
-- over document 01's limit."
pub record Demand3 (p : Operations) : Type 0 where
  pub normal : (a b : List ℕ) (quota : ℕ) (names o q : List ℕ) → Accepted a → Accepted b → reels_number quota names ≡ 0
      → Fits (sheet_from a quota names) (length o) → Fits (sheet_from b quota names) (length q)
      → Normal p a quota names o × Normal p b quota names q
      -- "The two written images are equal in length and in every byte exactly when the two meanings are equal." Ruled out: a
      -- rewriter that copies (`copies`).
      × ((image_in (p.rewrite a quota names o) ≡ image_in (p.rewrite b quota names q)) ↔ (content a ≡ content b))
