-- The stages of a reading, and which kinds of items lead from one to another. Only five kinds matter to the meaning: HDR1 and
-- HDR2, a data block, EOF1 and EOV1. All others, which leave alone what the meaning hangs on, are quiet. Assumes nothing.
use mathlib.Core.Path.{◌≡◌, refl}
use mathlib.Core.Bool.{false}
use Prim.Native.Nat.{ℕ, ◌+◌, ◌≤◌}
use native.Mathlib.Omega.{arith}
use borrow.Author.Tests.{ne_eqb}
use lib.Dec.{eqb}
use Rattle.base.proofs.Ifs.{and_left}
use Rattle.order.specs.Kind.{kind, vol, uvl, hdr, uhl, eof, eov, utl, data_block, tape_mark, end_of_reel, end_of_image, is_kind}
use Rattle.order.specs.declared.Kind.{Kind}

-- before the headers, behind HDR1, from HDR2 up to the first trailer label, behind EOF1, and behind EOV1
pub data Stage : Type 0 where
  before : Stage
  named : Stage
  within : Stage
  file_over : Stage
  reel_over : Stage

-- a kind of item that begins or ends no file, section or image, and is no data
pub record Quiet (k : Kind) : Type 0 where
  pub hdr1 : is_kind k (hdr 1) ≡ false
  pub hdr2 : is_kind k (hdr 2) ≡ false
  pub datum : is_kind k data_block ≡ false
  pub file_end : is_kind k (eof 1) ≡ false
  pub reel_end : is_kind k (eov 1) ≡ false
  pub image_end : is_kind k end_of_image ≡ false

-- which kind leads from which stage to which
pub data Move : Kind → Stage → Stage → Type 0 where
  stays : {k : Kind} {a : Stage} → Quiet k → Move k a a
  next_reel : {k : Kind} → Quiet k → Move k reel_over before
  header1 : Move (hdr 1) before named
  next_file : Move (hdr 1) file_over named
  header2 : Move (hdr 2) named within
  datum : Move data_block within within
  eof1 : Move (eof 1) within file_over
  eov1 : Move (eov 1) within reel_over
  finish : Move end_of_image file_over file_over

-- ---- quiet kinds

quiet_family : (f n : ℕ) → eqb f 3 ≡ false → eqb f 8 ≡ false → eqb f 5 ≡ false → eqb f 6 ≡ false → eqb f 11 ≡ false
    → Quiet (kind f n)
unfolding is_kind
quiet_family f n a b c d e =
    record {
      hdr1 = and_left _ _ a;
      hdr2 = and_left _ _ a;
      datum = and_left _ _ b;
      file_end = and_left _ _ c;
      reel_end = and_left _ _ d;
      image_end = and_left _ _ e;
    }

-- the label behind the n-th has a higher number than m
higher : (m n : ℕ) → m ≤ n → eqb (n + 1) m ≡ false
higher m n h = ne_eqb (n + 1) m (λ e. omega arith)

pub quiet_hdr : (n : ℕ) → 2 ≤ n → Quiet (hdr (n + 1))
unfolding is_kind
quiet_hdr n h =
    record {
      hdr1 = higher 1 n (omega arith);
      hdr2 = higher 2 n h;
      datum = refl;
      file_end = refl;
      reel_end = refl;
      image_end = refl;
    }

pub quiet_eof : (n : ℕ) → 1 ≤ n → Quiet (eof (n + 1))
unfolding is_kind
quiet_eof n h = record { hdr1 = refl; hdr2 = refl; datum = refl; file_end = higher 1 n h; reel_end = refl; image_end = refl }

pub quiet_eov : (n : ℕ) → 1 ≤ n → Quiet (eov (n + 1))
unfolding is_kind
quiet_eov n h = record { hdr1 = refl; hdr2 = refl; datum = refl; file_end = refl; reel_end = higher 1 n h; image_end = refl }

pub quiet_vol : (n : ℕ) → Quiet (vol n)
quiet_vol n = quiet_family 1 n refl refl refl refl refl

pub quiet_uvl : (n : ℕ) → Quiet (uvl n)
quiet_uvl n = quiet_family 2 n refl refl refl refl refl

pub quiet_uhl : Quiet uhl
quiet_uhl = quiet_family 4 0 refl refl refl refl refl

pub quiet_utl : Quiet utl
quiet_utl = quiet_family 7 0 refl refl refl refl refl

pub quiet_mark : Quiet tape_mark
quiet_mark = quiet_family 9 0 refl refl refl refl refl

pub quiet_reel : Quiet end_of_reel
quiet_reel = quiet_family 10 0 refl refl refl refl refl
