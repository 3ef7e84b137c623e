-- Wrong programs that rewrite: that they do not meet the third demand. Assumes nothing.
use mathlib.Core.Path.{◌≡◌, refl, sym, ap, ◌∙◌}
use mathlib.Core.List.{List, ◌++◌}
use Prim.Native.Nat.{ℕ, ◌≤◌}
use native.Mathlib.Omega.{arith}
use lib.Dec.{eqb}
use lib.ListN.{length, take, drop, get_or, replicate}
use lib.Seq.{take_at}
use Rattle.base.specs.If.{if_b}
use Rattle.base.specs.Answer.{verdict}
use Rattle.base.specs.declared.Verdict.{Verdict}
use Rattle.image.specs.Item.{Item, three as three_bytes, bytes_of, encode_by, encode}
use Rattle.image.specs.Framing.{items}
use Rattle.output.specs.Output.{refused_with, image_in}
use Rattle.output.specs.Text.{bytes}
use Rattle.volume.specs.Meaning.{content}
use Rattle.volume.proofs.Accepted.{accepted_iff, done_accepted}
use Rattle.reading.proofs.Dates.{later_dates}
use Rattle.writing.specs.Lay.{laid, lay}
use Rattle.writing.specs.Rewrite.{sheet_from, rewrite}
use Rattle.demands.specs.Terms.{Fits}
use Rattle.demands.proofs.Normal.{sheet_same}
use Rattle.demands.proofs.NewYear.{first, reel, ledger, new_year, old_year, image_of, new_year_lem}
use Rattle.demands.specs.Demands.{Demand3}
use Rattle.demands.proofs.Witness.{set, names, set_accepted, reels_legal, set_fits, size, set_long, three_legal, three_laid}
use Rattle.demands.proofs.Wrong.{rewriting}

-- ---- demand 3

-- what demand 3 says of rewriting document 01's set into a buffer of zeros
zeros : List ℕ
zeros = replicate 448 0

-- a rewriter that says 12 always
pub twelve : Demand3 (rewriting (λ s quota names out. refused_with (verdict 12 0 0) out)) → ⊥
unfolding refused_with verdict zeros
twelve d =
    let fits = set_fits (length zeros) (omega arith) in
    let z : ◌≡◌ {A = ℕ} 12 0 = ap (λ (v : Verdict). v.number) (d.normal set set 1 names zeros zeros set_accepted set_accepted reels_legal fits fits).0.done in
    omega arith

-- or 10 where the buffer begins with 0
pub ten_at_zero : Demand3
    (rewriting (λ s quota names out. if_b (eqb (get_or out 0 1) 0) (refused_with (verdict 10 0 0) out) (rewrite s quota names out)))
    → ⊥
unfolding refused_with verdict zeros if_b
ten_at_zero d =
    let fits = set_fits (length zeros) (omega arith) in
    let z : ◌≡◌ {A = ℕ} 10 0 = ap (λ (v : Verdict). v.number) (d.normal set set 1 names zeros zeros set_accepted set_accepted reels_legal fits fits).0.done in
    omega arith

-- ---- demand 3, of the sets of NewYear.antt, which have one meaning

three : List ℕ
three = bytes "GATE01GATE02GATE03"

-- the image of the normal set of both, and a byte in which they differ
years : (length (image_of old_year) ≡ 1334) × (get_or (image_of new_year) 577 0 ≡ 54) × (get_or (image_of old_year) 577 0 ≡ 53)
unfolding first reel ledger new_year old_year image_of bytes encode encode_by bytes_of three_bytes
years = (refl, refl, refl)

year_fits : (s room : _) → lay (sheet_from s 1 three) ≡ laid old_year → 1334 ≤ room → Fits (sheet_from s 1 three) room
unfolding image_of
year_fits s room e h =
    let size : length (image_of old_year) ≡ 1334 = years.0 in
    record { items = old_year; laying = e; limit = omega (arith, size); enough = omega (arith, size) }

wide : List ℕ
wide = replicate 1334 0

-- a rewriter that copies
pub copies : Demand3 (rewriting
    (λ s quota names out. record { verdict = verdict 0 0 0; len = length s; out = s ++ drop (length s) out })) → ⊥
unfolding image_in three wide
copies d =
    let a : List ℕ = image_of new_year in
    let b : List ℕ = image_of old_year in
    let x = done_accepted a new_year_lem.0 in
    let y = done_accepted b new_year_lem.3 in
    let one = later_dates a b ((accepted_iff a).1 x) ((accepted_iff b).1 y) new_year_lem.2 in
    let equal = (d.normal a b 1 three wide wide x y three_legal (year_fits a (length wide) new_year_lem.1 (omega arith)) (year_fits b (length wide) new_year_lem.4 (omega arith))).2.1 one in
    let same : a ≡ b = sym (take_at a (drop (length a) wide) (length a) refl) ∙ equal ∙ take_at b (drop (length b) wide) (length b) refl in
    let z : ◌≡◌ {A = ℕ} 54 53 = sym years.1 ∙ ap (λ (l : List ℕ). get_or l 577 0) same ∙ years.2 in
    omega arith

-- one fixed set
pub fixed : Demand3 (rewriting (λ s quota names out. record { verdict = verdict 0 0 0; len = 448; out = set ++ drop 448 out }))
    → ⊥
unfolding image_in three wide image_of
fixed d =
    let a : List ℕ = image_of new_year in
    let x = done_accepted a new_year_lem.0 in
    let fits = year_fits a (length wide) new_year_lem.1 (omega arith) in
    let meant = (d.normal a a 1 three wide wide x x three_legal fits fits).0.means.meaning in
    let image : take 448 (set ++ drop 448 wide) ≡ set = take_at set (drop 448 wide) 448 set_long in
    let one : content set ≡ content a = ap content (sym image) ∙ meant in
    let both : laid (items set) ≡ laid old_year = sym three_laid ∙ ap lay (sheet_same set a 1 three one) ∙ new_year_lem.1 in
    let same : items set ≡ old_year = cc in
    let z : ◌≡◌ {A = ℕ} 448 1334 = sym size ∙ ap (λ (xs : List Item). length (image_of xs)) same ∙ years.0 in
    omega arith
