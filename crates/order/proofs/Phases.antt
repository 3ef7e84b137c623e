-- The table of the twenty phases: what is known of each, and of every item that is due there. Whatever is proved of a reading by
-- its phase is read off here. Assumes nothing.
use Rattle.std.specs.Prelude.{Some}
use mathlib.Core.Path.{◌≡◌, refl, sym, ap, ◌∙◌}
use mathlib.Core.Bool.{Bool, true, false, not, ◌&&◌, ◌||◌, false≢true}
use Prim.Native.Nat.{ℕ, ◌+◌}
use native.Mathlib.Omega.{arith}
use borrow.Author.Tests.{eq-eqb, eqb-true, leb-true, le-leb, lt-leb}
use lib.Dec.{eqb, leb}
use Rattle.base.specs.If.{if_b}
use Rattle.base.proofs.Ifs.{if_case, and_second}
use Rattle.order.specs.Kind.{other, vol, hdr, eof, eov, data_block, tape_mark, end_of_reel, end_of_image, is_kind}
use Rattle.order.specs.Due.{dues, due_after}
use Rattle.order.specs.Group.{among_labels, among_headers, among_data, group_after}
use Rattle.order.specs.declared.Kind.{Kind}
use Rattle.order.specs.declared.Phase.{Phase}
use Rattle.order.specs.declared.Phase.TheVariants.{Reel, Volume, UserVolume, FirstHeader, Header, UserHeader, Data, Trailer, FirstEof, Eof, EofUser, FirstEov, Eov, EovUser, FileEnd, VolumeEnd, SetClosed, ReelClosed, Over, Accepted}
use Rattle.order.proofs.Laws.{Each, nine, chosen}
use Rattle.order.proofs.Moves.{Stage, before, named, within, file_over, reel_over, Move, stays, next_reel, header1, next_file, header2, datum, eof1, eov1, finish, quiet_hdr, quiet_eof, quiet_eov, quiet_vol, quiet_uvl, quiet_uhl, quiet_utl, quiet_mark, quiet_reel}

-- ---- the phases

-- the stage, the group, whether it is inside a reel, and whether the number of the last label is one that reading comes to
pub record Place : Type 0 where
  pub stage : Stage
  pub group : ℕ
  pub inside : Bool
  pub numbered : Bool

abbrev place : Stage → ℕ → Bool → Bool → Place
place a g i n = record { stage = a; group = g; inside = i; numbered = n }

-- the table
abbrev pub at : Phase → Place
at Reel = place before among_labels false true
at (Volume n) = place before among_labels true (leb 1 n)
at (UserVolume n) = place before among_labels true true
at FirstHeader = place named among_headers true true
at (Header n) = place within among_headers true (leb 2 n)
at (UserHeader n) = place within among_headers true true
at Data = place within among_data true true
at Trailer = place within among_labels true true
at FirstEof = place file_over among_labels true true
at (Eof n) = place file_over among_labels true (leb 1 n)
at (EofUser n) = place file_over among_labels true true
at FirstEov = place reel_over among_labels true true
at (Eov n) = place reel_over among_labels true (leb 1 n)
at (EovUser n) = place reel_over among_labels true true
at FileEnd = place file_over among_labels true true
at VolumeEnd = place reel_over among_labels true true
at SetClosed = place file_over among_labels true true
at ReelClosed = place reel_over among_labels true true
at Over = place file_over among_labels false true
at Accepted = place file_over among_labels false true

-- the stage of a phase
abbrev pub stage : Phase → Stage
stage p = (at p).stage

-- its group
abbrev pub group_of : Phase → ℕ
group_of p = (at p).group

-- behind a numbered label its number is one that reading comes to
abbrev pub Numbered : Phase → Type 0
Numbered p = (at p).numbered ≡ true

-- ---- the items that are due

-- VOL1 and the end of the image stand outside a reel, all else inside one
abbrev pub stands : Phase → Kind → Bool
stands p k = if_b (is_kind k end_of_image || is_kind k (vol 1)) (not ((at p).inside && (at p).numbered)) (at p).inside

-- nothing is due that is of no kind, and a data block only among data
abbrev suits : Phase → Kind → Bool
suits p k = not (is_kind k other) && ((not (is_kind k data_block) || eqb (group_of p) among_data) && stands p k)

-- behind the end of a reel
pub data Outside : Phase → Type 0 where
  before_reel : Outside Reel
  behind_last : Outside Over

-- what is seen of an item that leads from phase p to phase q: where it leads, that it may stand there, the phase if it is HDR2,
-- and, among the labels before the data, that it is one of them
pub record Seen : Type 0 where
  pub group : ℕ
  pub inside : Bool
  pub suited : Bool
  pub second : Phase
  pub label : ℕ × Bool × Bool × Bool

abbrev a_label : ℕ × Bool × Bool × Bool
a_label = (among_headers, false, false, false)

abbrev seen : Phase → Kind → Phase → Seen
seen p k q =
    record {
      group = group_of q;
      inside = (at q).inside;
      suited = suits p k;
      second = if_b (is_kind k (hdr 2)) q (Header 2);
      label = if_b (eqb (group_of p) among_headers && not (is_kind k tape_mark))
          (group_of q, is_kind k data_block, is_kind k (eof 1), is_kind k end_of_reel) a_label;
    }

abbrev wanted : Phase → Kind → Seen
wanted p k =
    record {
      group = group_after (group_of p) k;
      inside = not (is_kind k end_of_reel || is_kind k end_of_image);
      suited = true;
      second = Header 2;
      label = a_label;
    }

-- an item of kind k leads from stage to stage in one of the nine ways
pub record Goes (p : Phase) (k : Kind) (q : Phase) : Type 0 where
  pub move : Move k (stage p) (stage q)
  pub numbered : Numbered q

record Row (p : Phase) (k : Kind) (q : Phase) : Type 0 where
  pub told : seen p k q ≡ wanted p k
  pub left : is_kind k end_of_reel ≡ true → Outside q
  pub goes : Numbered p → Goes p k q

-- ---- the table

goes : {p q : Phase} {k : Kind} → Move k (stage p) (stage q) → Numbered q → Goes p k q
goes m n = record { move = m; numbered = n }

never : {A : Type 0} → false ≡ true → A
never h = absurd (false≢true h)

-- an item that ends no reel and leads on from any number of labels
on : {p q : Phase} {k : Kind}
    → ◌≡◌ {A = Seen × Bool × Bool} (seen p k q, is_kind k end_of_reel, (at q).numbered) (wanted p k, false, true)
    → Move k (stage p) (stage q) → Row p k q
on e m = record { told = λ i. (e i).0; left = λ r. never (sym (λ i. (e i).1) ∙ r); goes = λ _. goes m (λ i. (e i).2) }

ends : {p q : Phase} → seen p end_of_reel q ≡ wanted p end_of_reel → Outside q → Goes p end_of_reel q → Row p end_of_reel q
ends e o g = record { told = e; left = λ _. o; goes = λ _. g }

-- behind the n-th label the (n + 1)-th
another_volume : (n : ℕ) → Row (Volume n) (vol (n + 1)) (Volume (n + 1))
unfolding is_kind group_after if_b
another_volume n =
    record {
      told = λ i. record { group = among_labels; inside = true; suited = suited i; second = Header 2; label = a_label };
      left = never;
      goes = λ _. goes (stays (quiet_vol (n + 1))) (le-leb 1 (n + 1) (omega arith));
    }
  where
    suited : suits (Volume n) (vol (n + 1)) ≡ true
    suited =
        if_case (λ (b : Bool). b ≡ true) (eqb (n + 1) 1) (not (leb 1 n)) true
        (λ e. ap not (lt-leb 1 n (omega (arith, eqb-true (n + 1) 1 e)))) (λ _. refl)

another_header : (n : ℕ) → Row (Header n) (hdr (n + 1)) (Header (n + 1))
unfolding is_kind group_after if_b
another_header n =
    record {
      told = λ i. record { group = among_headers; inside = true; suited = true; second = second i; label = a_label };
      left = never;
      goes = λ h. let two = leb-true 2 n h in goes (stays (quiet_hdr n two)) (le-leb 2 (n + 1) (omega arith));
    }
  where
    second : if_b (eqb (n + 1) 2) (Header (n + 1)) (Header 2) ≡ Header 2
    second = if_case (λ (q : Phase). q ≡ Header 2) (eqb (n + 1) 2) _ _ (λ e. ap Header (eqb-true (n + 1) 2 e)) (λ _. refl)

another_eof : (n : ℕ) → Row (Eof n) (eof (n + 1)) (Eof (n + 1))
unfolding is_kind group_after if_b
another_eof n =
    record {
      told = refl;
      left = never;
      goes = λ h. goes (stays (quiet_eof n (leb-true 1 n h))) (le-leb 1 (n + 1) (omega arith));
    }

another_eov : (n : ℕ) → Row (Eov n) (eov (n + 1)) (Eov (n + 1))
unfolding is_kind group_after if_b
another_eov n =
    record {
      told = refl;
      left = never;
      goes = λ h. goes (stays (quiet_eov n (leb-true 1 n h))) (le-leb 1 (n + 1) (omega arith));
    }

-- only Data is among data; and every item that is due
rows : (p : Phase) → (eqb (group_of p) among_data ≡ true → p ≡ Data) × Each (Row p) (dues p)
unfolding dues group_after is_kind if_b
rows Reel = (never, (on refl (stays (quiet_vol 1)), tt))
rows (Volume n) = (never, nine (Row (Volume n)) n _ _ (another_volume n) (on refl (stays (quiet_uvl 1)), (on refl header1, tt)))
rows (UserVolume n) = (never, nine (Row (UserVolume n)) n _ _ (on refl (stays (quiet_uvl (n + 1)))) (on refl header1, tt))
rows FirstHeader = (never, (on refl header2, tt))
rows (Header n) =
    (never, nine (Row (Header n)) n _ _ (another_header n) (on refl (stays quiet_uhl), (on refl (stays quiet_mark), tt)))
rows (UserHeader n) = (never, nine (Row (UserHeader n)) n _ _ (on refl (stays quiet_uhl)) (on refl (stays quiet_mark), tt))
rows Data = ((λ _. refl), (on refl datum, (on refl (stays quiet_mark), tt)))
rows Trailer = (never, (on refl eof1, (on refl eov1, tt)))
rows FirstEof = (never, (on refl (stays (quiet_eof 1 (omega arith))), tt))
rows (Eof n) = (never, nine (Row (Eof n)) n _ _ (another_eof n) (on refl (stays quiet_utl), (on refl (stays quiet_mark), tt)))
rows (EofUser n) = (never, nine (Row (EofUser n)) n _ _ (on refl (stays quiet_utl)) (on refl (stays quiet_mark), tt))
rows FirstEov = (never, (on refl (stays (quiet_eov 1 (omega arith))), tt))
rows (Eov n) = (never, nine (Row (Eov n)) n _ _ (another_eov n) (on refl (stays quiet_utl), (on refl (stays quiet_mark), tt)))
rows (EovUser n) = (never, nine (Row (EovUser n)) n _ _ (on refl (stays quiet_utl)) (on refl (stays quiet_mark), tt))
rows FileEnd = (never, (on refl next_file, (on refl (stays quiet_mark), tt)))
rows VolumeEnd = (never, (on refl (stays quiet_mark), tt))
rows SetClosed = (never, (ends refl behind_last (goes (stays quiet_reel) refl), tt))
rows ReelClosed = (never, (ends refl before_reel (goes (next_reel quiet_reel) refl), tt))
rows Over = (never, (on refl finish, tt))
rows Accepted = (never, tt)

-- ---- what is read off

-- only Data is among data
pub only_data : (p : Phase) → group_of p ≡ among_data → p ≡ Data
only_data p e = (rows p).0 (eq-eqb (group_of p) among_data e)

row : (p : Phase) (k : Kind) (q : Phase) → due_after p k ≡ Some q → Row p k q
unfolding due_after
row p k q e = chosen (Row p) (dues p) k q (rows p).1 e

-- what is seen of an item that is due
pub due_seen : (p : Phase) (k : Kind) (q : Phase) → due_after p k ≡ Some q → seen p k q ≡ wanted p k
due_seen p k q e = (row p k q e).told

-- an item that is due moves the stages, or leaves them as they are
pub due_goes : (p : Phase) (k : Kind) (q : Phase) → Numbered p → due_after p k ≡ Some q → Goes p k q
due_goes p k q h e = (row p k q e).goes h

-- it stands where its kind may stand
pub due_stands : (p : Phase) (k : Kind) (q : Phase) → due_after p k ≡ Some q → stands p k ≡ true
due_stands p k q e =
    and_second (not (is_kind k data_block) || eqb (group_of p) among_data) _
    (and_second (not (is_kind k other)) _ (ap (λ (x : Seen). x.suited) (due_seen p k q e)))

-- an end of reel leads out of a reel
pub reel_left : (p q : Phase) → due_after p end_of_reel ≡ Some q → Outside q
unfolding is_kind
reel_left p q e = (row p end_of_reel q e).left refl
