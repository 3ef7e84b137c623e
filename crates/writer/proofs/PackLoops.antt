-- The loop that packs a record, or pieces of one, turn after turn. Assumes nothing.
use mathlib.Core.Path.{◌≡◌, refl, sym, ◌∙◌}
use mathlib.Core.Bool.{Bool, true, false, false≢true}
use mathlib.Core.List.{List}
use Prim.Native.Nat.{ℕ, suc, ◌<◌}
use native.Mathlib.Omega.{arith}
use borrow.Author.Rules.{rules}
use lib.ListN.{length}
use Rattle.base.specs.If.{if_b}
use Rattle.base.proofs.Ifs.{if_true, if_false}
use Rattle.writing.proofs.Packing.{by_test}
use Rattle.writer.specs.declared.pack.Flow.{Flow}
use Rattle.writer.specs.Code.Pass.{Job}
use Rattle.writer.specs.Code.Packs.{FlowGoes, Settled, turns_in, DidTakeTurn, CanPack, DidPack}
use Rattle.writer.proofs.Steps.{goes_goes, flowing_on}

-- ---- the loop

pub record Packing (lay : Bool) (f b : ℕ) (j : Job) (piece : List ℕ) (s : Flow) (o q : List ℕ) (r : Flow) : Type 0 where
  pub goes : FlowGoes lay f b j piece s o q r
  pub packable : r.on ≡ true → CanPack lay f b j piece r q
  pub settled : r.pen.short ≡ false → Settled r
  pub over : r.on ≡ false → r.pen.short ≡ false → r.from ≡ length piece
  pub out : r.on ≡ false → r.pen.short ≡ false → r.inside ≡ false → 0 < r.left

pub packing_none : (lay : Bool) (f b : ℕ) (j : Job) (piece : List ℕ) (s : Flow) (o : List ℕ) → CanPack lay f b j piece s o
    → s.on ≡ true → Packing lay f b j piece s o o s
packing_none lay f b j piece s o k h =
    record {
      goes =
          record {
            sound = k.flowing.sound;
            kept = refl;
            untouched = λ _. refl;
            good = λ _. k.flowing.good;
            total = refl;
            same = λ zs xs next size room. refl;
          };
      packable = λ _. k;
      settled = λ _. k.settled;
      over = λ e. absurd (false≢true (sym e ∙ h));
      out = λ e. absurd (false≢true (sym e ∙ h));
    }

module _ (lay : Bool) (f b : ℕ) (j : Job) (piece : List ℕ) (s : Flow) (o q : List ℕ) (r : Flow)
    (x : Packing lay f b j piece s o q r) where
  pub packing_packable : r.on ≡ true → CanPack lay f b j piece r q
  packing_packable h = x.packable h

  pub packing_more : (z : List ℕ) (v : Flow) → r.on ≡ true → DidTakeTurn lay f b j piece r q z v
      → Packing lay f b j piece s o z v
  packing_more z v h y =
      record {
        goes = goes_goes lay f b j piece s o q r z v x.goes y.goes;
        packable =
            λ e.
            record {
              flowing = flowing_on lay f b j piece r q z v (x.packable h).flowing y.goes (y.given e);
              settled = y.settled (y.given e);
            };
        settled = y.settled;
        over = y.over;
        out = y.out;
      }

  pub packing_all : r.on ≡ false → DidPack lay f b j piece s o q r
  packing_all h = record { goes = x.goes; settled = x.settled; over = x.over h; out = x.out h }

  pub packing_kept : length q ≡ length o
  packing_kept = x.goes.kept

-- what falls with each turn
unfoldable pub turns_left : ℕ → ℕ → ℕ → Flow → ℕ
turns_left f b n s = if_b s.on (suc (turns_in f b n s)) 0

pub turns_fall : (lay : Bool) (f b : ℕ) (j : Job) (piece : List ℕ) (s : Flow) (o q : List ℕ) (r : Flow) → s.on ≡ true
    → DidTakeTurn lay f b j piece s o q r
    → turns_left f b (length piece) r < turns_left f b (length piece) s
unfolding turns_left
turns_fall lay f b j piece s o q r h y =
    let n : if_b s.on (suc (turns_in f b (length piece) s)) 0 ≡ suc (turns_in f b (length piece) s) = if_true _ _ _ h in
    by_test r.on
    (λ e. let m : if_b r.on (suc (turns_in f b (length piece) r)) 0 ≡ suc (turns_in f b (length piece) r) = if_true _ _ _ e in let a = y.falls e in omega arith)
    (λ e. let m : if_b r.on (suc (turns_in f b (length piece) r)) 0 ≡ 0 = if_false _ _ _ e in omega arith)

pub ruleset packing = (packing_none, packing_packable, packing_more, packing_all, packing_kept, turns_fall, rules)
