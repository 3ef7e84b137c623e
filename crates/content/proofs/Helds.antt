-- Laws of what a file holds: the equations of `held_from`, the loop over its blocks, and where its data ends. Assumes nothing.
use Rattle.std.specs.Prelude.{Option, Some, None}
use mathlib.Core.Path.{◌≡◌, refl, sym, ap, ◌∙◌, subst}
use mathlib.Core.List.{List}
use Prim.Native.Nat.{ℕ, zero, suc, ◌+◌, ◌-◌, ◌≤◌, ◌<◌}
use native.Mathlib.Omega.{arith}
use borrow.Author.Rules.{rules}
use mir.Val.{Fits}
use mir.Syntax.{w64}
use lib.ListN.{length, take, drop}
use Rattle.base.specs.Part.{part}
use Rattle.base.proofs.Parts.{length_part, part_within}
use Rattle.image.specs.Item.{decode}
use Rattle.order.specs.declared.Phase.TheVariants.{Data}
use Rattle.block.specs.Held.{empty, held_in, total}
use Rattle.block.specs.declared.Held.{Held}
use Rattle.block.proofs.Helds.{Fitting, held_fits}
use Rattle.content.specs.Section.{data_from, extent}
use Rattle.content.specs.Held.{plus, InRegister, adding, held_by, held_f, held_from, file_held}
use Rattle.content.specs.declared.Walk.{Walk}
use Rattle.content.specs.declared.holding.FileHeld.{FileHeld}
use Rattle.content.specs.declared.section.Extent.{Extent}
use Rattle.content.proofs.Places.{by_place}
use Rattle.content.proofs.Parts.{BlockAhead}
use Rattle.content.proofs.Sections.{data_within}
use Rattle.content.proofs.Searches.{Follows, Leads, data_leads}

-- ---- the equations

same_by : (s : List ℕ) (f r o at : ℕ) (x : Option Extent) (g h : ℕ → FileHeld)
    → ((start n : ℕ) → x ≡ extent start n → g (start + n) ≡ h (start + n))
    → held_by s f r o at x g ≡ held_by s f r o at x h
unfolding held_by
same_by s f r o at (Some u) g h e = ap (adding (held_in f r o (part u.start u.len s))) (e u.start u.len refl)
same_by s f r o at None g h e = refl

-- the next block is further on
enough : (j k : ℕ) (s : List ℕ) (f r o at : ℕ) → length s - at < j → length s - at < k → held_f j s f r o at ≡ held_f k s f r o at
unfolding held_f
enough zero k s f r o at a b = absurd (omega arith)
enough (suc j) zero s f r o at a b = absurd (omega arith)
enough (suc j) (suc k) s f r o at a b =
    same_by s f r o at (data_from Data at (decode (drop at s))) (λ i. held_f j s f r o i) (λ i. held_f k s f r o i)
    (λ start n e.
    let c = data_within s Data at start n e in
    enough j k s f r o (start + n) (omega (arith, c.onward, c.within)) (omega (arith, c.onward, c.within)))

-- what is held from a place on, by the next data block
pub held_at : (s : List ℕ) (f r o at : ℕ)
    → held_from s f r o at ≡ held_by s f r o at (data_from Data at (decode (drop at s))) (λ i. held_from s f r o i)
unfolding held_from held_f
held_at s f r o at =
    same_by s f r o at (data_from Data at (decode (drop at s))) (λ i. held_f (length s) s f r o i)
    (λ i. held_f (suc (length s)) s f r o i)
    (λ start n e.
    let c = data_within s Data at start n e in
    enough (length s) (suc (length s)) s f r o (start + n) (omega (arith, c.onward, c.within))
    (omega (arith, c.onward, c.within)))

held_block : (s : List ℕ) (f r o at start n : ℕ) → data_from Data at (decode (drop at s)) ≡ extent start n
    → held_from s f r o at ≡ adding (held_in f r o (part start n s)) (held_from s f r o (start + n))
unfolding held_by
held_block s f r o at start n e = held_at s f r o at ∙ ap (λ (x : Option Extent). held_by s f r o at x (λ i. held_from s f r o i)) e

held_over : (s : List ℕ) (f r o at : ℕ) → data_from Data at (decode (drop at s)) ≡ None
    → held_from s f r o at ≡ record { held = empty; end = at }
unfolding held_by
held_over s f r o at e = held_at s f r o at ∙ ap (λ (x : Option Extent). held_by s f r o at x (λ i. held_from s f r o i)) e

-- ---- the loop over the blocks: what was added up and what is left make the whole

pub record Summing (s : List ℕ) (w : Walk) (h : Held) (at : ℕ) : Type 0 where
  pub room : length s < 18446744073709551616
  pub records : h.records ≤ at
  pub bytes : total h ≤ at
  pub left : adding h (held_from s w.format w.record_length w.offset at) ≡ file_held s w

adding_none : (x : FileHeld) → adding empty x ≡ x
adding_none x =
    let a : 0 + x.held.records ≡ x.held.records = omega arith in
    let b : 0 + x.held.bytes ≡ x.held.bytes = omega arith in
    let c : 0 + x.held.words ≡ x.held.words = omega arith in
    let d : 0 + x.held.padding ≡ x.held.padding = omega arith in
    let e : 0 + x.held.offset ≡ x.held.offset = omega arith in
    λ i. record { held = record { records = a i; bytes = b i; words = c i; padding = d i; offset = e i }; end = x.end }

adding_two : (h k : Held) (x : FileHeld) → adding (plus h k) x ≡ adding h (adding k x)
adding_two h k x =
    let y = x.held in
    let a : h.records + k.records + y.records ≡ h.records + (k.records + y.records) = omega arith in
    let b : h.bytes + k.bytes + y.bytes ≡ h.bytes + (k.bytes + y.bytes) = omega arith in
    let c : h.words + k.words + y.words ≡ h.words + (k.words + y.words) = omega arith in
    let d : h.padding + k.padding + y.padding ≡ h.padding + (k.padding + y.padding) = omega arith in
    let e : h.offset + k.offset + y.offset ≡ h.offset + (k.offset + y.offset) = omega arith in
    λ i. record { held = record { records = a i; bytes = b i; words = c i; padding = d i; offset = e i }; end = x.end }

adding_over : (h : Held) (at : ℕ)
    → ◌≡◌ {A = FileHeld} (record { held = h; end = at }) (adding h (record { held = empty; end = at }))
adding_over h at =
    let a : h.records ≡ h.records + 0 = omega arith in
    let b : h.bytes ≡ h.bytes + 0 = omega arith in
    let c : h.words ≡ h.words + 0 = omega arith in
    let d : h.padding ≡ h.padding + 0 = omega arith in
    let e : h.offset ≡ h.offset + 0 = omega arith in
    λ i. record { held = record { records = a i; bytes = b i; words = c i; padding = d i; offset = e i }; end = at }

pub summing_none : (s : List ℕ) (w : Walk) (h : Held) → length s < 18446744073709551616 → h ≡ empty → Summing s w h w.at
unfolding file_held
summing_none s w h l e =
    let a : h.records ≡ 0 = ap (λ (k : Held). k.records) e in
    let b : total h ≡ 0 = ap (λ (k : Held). total k) e in
    let x = held_from s w.format w.record_length w.offset w.at in
    record {
      room = l;
      records = omega (arith, a);
      bytes = omega (arith, b);
      left = ap (λ (k : Held). adding k x) e
          ∙ adding_none x;
    }

-- the block that was found, and what it holds
record More (s : List ℕ) (w : Walk) (h : Held) (at start n : ℕ) (k : Held) : Type 0 where
  ahead : BlockAhead s at start n
  is : k ≡ held_in w.format w.record_length w.offset (part start n s)
  fits : Fitting k n

more_of : (s : List ℕ) (w : Walk) (h : Held) (at : ℕ) (block : Extent) (x : Option Extent) (k : Held) → x ≡ data_from Data at (decode (drop at s))
    → x ≡ Some block
    → k ≡ held_in w.format w.record_length w.offset (take (block.start + block.len - block.start) (drop block.start s)) → More s w h at block.start block.len k
more_of s w h at block x k e q p =
    let c = data_within s Data at block.start block.len (sym e ∙ q) in
    let is : k ≡ held_in w.format w.record_length w.offset (part block.start block.len s) = p ∙ ap (held_in w.format w.record_length w.offset) (part_within block.start block.len s) in
    record {
      ahead = c;
      is = is;
      fits = subst (Fitting k) (length_part block.start block.len s c.within)
          (subst (λ (y : Held). Fitting y (length (part block.start block.len s))) (sym is)
          (held_fits w.format w.record_length w.offset (part block.start block.len s)));
    }

pub summing_more : (s : List ℕ) (w : Walk) (h : Held) (at : ℕ) (block : Extent) (x : Option Extent) (k g : Held) → Summing s w h at
    → x ≡ data_from Data at (decode (drop at s))
    → x ≡ Some block → k ≡ held_in w.format w.record_length w.offset (take (block.start + block.len - block.start) (drop block.start s))
    → g ≡ plus h k
    → Summing s w g (block.start + block.len)
summing_more s w h at block x k g c e q p t =
    let m = more_of s w h at block x k e q p in
    let a : g.records ≡ h.records + k.records = ap (λ (y : Held). y.records) t in
    let b : total g ≡ total (plus h k) = ap (λ (y : Held). total y) t in
    let rest = held_from s w.format w.record_length w.offset (block.start + block.len) in
    record {
      room = c.room;
      records = omega (arith, a, c.records, m.fits.records, m.ahead.onward);
      bytes = omega (arith, b, c.bytes, m.fits.bytes, m.ahead.onward);
      left =
          ap (λ (y : Held). adding y rest) t ∙ adding_two h k rest ∙ ap (λ (y : Held). adding h (adding y rest)) m.is
          ∙ ap (adding h) (sym (held_block s w.format w.record_length w.offset at block.start block.len (sym e ∙ q))) ∙ c.left;
    }

pub summing_over : (s : List ℕ) (w : Walk) (h : Held) (at : ℕ) (x : Option Extent) → Summing s w h at
    → x ≡ data_from Data at (decode (drop at s)) → x ≡ None
    → ◌≡◌ {A = FileHeld} (record { held = h; end = at }) (file_held s w)
summing_over s w h at x c e q =
    adding_over h at ∙ ap (adding h) (sym (held_over s w.format w.record_length w.offset at (sym e ∙ q))) ∙ c.left

pub sum_room : (s : List ℕ) (w : Walk) (h : Held) (at : ℕ) (block : Extent) (x : Option Extent) (k : Held) → Summing s w h at
    → x ≡ data_from Data at (decode (drop at s))
    → x ≡ Some block → k ≡ held_in w.format w.record_length w.offset (take (block.start + block.len - block.start) (drop block.start s))
    → InRegister (plus h k)
sum_room s w h at block x k c e q p =
    let m = more_of s w h at block x k e q p in
    record {
      records = omega (arith, c.room, c.records, m.fits.records, m.ahead.onward, m.ahead.within);
      bytes = omega (arith, c.room, c.bytes, m.fits.bytes, m.ahead.onward, m.ahead.within);
    }

pub block_end : (s : List ℕ) (at : ℕ) (block : Extent) (x : Option Extent) → x ≡ data_from Data at (decode (drop at s)) → x ≡ Some block
    → block.start + block.len ≤ length s
block_end s at block x e q = (data_within s Data at block.start block.len (sym e ∙ q)).within

pub block_fits : (s : List ℕ) (at : ℕ) (block : Extent) (x : Option Extent) → length s < 18446744073709551616
    → x ≡ data_from Data at (decode (drop at s)) → x ≡ Some block
    → Fits w64 (block.start + block.len)
block_fits s at block x h e q = omega (arith, block_end s at block x e q)

pub block_falls : (s : List ℕ) (at : ℕ) (block : Extent) (x : Option Extent) → x ≡ data_from Data at (decode (drop at s)) → x ≡ Some block
    → length s - (block.start + block.len) < length s - at
block_falls s at block x e q = let c = data_within s Data at block.start block.len (sym e ∙ q) in omega (arith, c.onward, c.within)

pub ruleset summings = (summing_none, summing_more, summing_over, sum_room, block_end, block_fits, block_falls, rules)

-- ---- the place where the data ends: inside the image, and from there on the same file follows

pub held_end : (s : List ℕ) (f r o at : ℕ) → at ≤ length s
    → ((held_from s f r o at).end ≤ length s) × Leads s at (held_from s f r o at).end
held_end s f r o at = by_place s P each at
  where
    P : ℕ → Type 0
    P i = i ≤ length s → ((held_from s f r o i).end ≤ length s) × Leads s i (held_from s f r o i).end

    each : (i : ℕ) → ((m : ℕ) → i < m → m ≤ length s → P m) → P i
    each i again h = by_block (data_from Data i (decode (drop i s))) refl
      where
        by_block : (x : Option Extent) → data_from Data i (decode (drop i s)) ≡ x
            → ((held_from s f r o i).end ≤ length s) × Leads s i (held_from s f r o i).end
        by_block (Some u) e =
            let c = data_within s Data i u.start u.len e in
            let (a, b) = again (u.start + u.len) (omega (arith, c.onward)) c.within c.within in
            let same : (held_from s f r o (u.start + u.len)).end ≡ (held_from s f r o i).end = ap (λ (x : FileHeld). x.end) (sym (held_block s f r o i u.start u.len e)) in
            (subst (λ (j : ℕ). j ≤ length s) same a, λ x l. subst (Follows s x) same (b x (data_leads s i u.start u.len e x l)))
        by_block None e =
            let same : i ≡ (held_from s f r o i).end = ap (λ (x : FileHeld). x.end) (sym (held_over s f r o i e)) in
            (subst (λ (j : ℕ). j ≤ length s) same h, λ x l. subst (Follows s x) same l)

-- What is counted of a file is no more than the bytes from its place on.
pub held_within : (s : List ℕ) (f r o at : ℕ) → Fitting (held_from s f r o at).held (length s - at)
held_within s f r o at = by_place s (λ (i : ℕ). Fitting (held_from s f r o i).held (length s - i)) each at
  where
    each : (i : ℕ) → ((m : ℕ) → i < m → m ≤ length s → Fitting (held_from s f r o m).held (length s - m))
        → Fitting (held_from s f r o i).held (length s - i)
    each i again = by_block (data_from Data i (decode (drop i s))) refl
      where
        by_block : (x : Option Extent) → data_from Data i (decode (drop i s)) ≡ x → Fitting (held_from s f r o i).held (length s - i)
        by_block (Some u) e =
            let c = data_within s Data i u.start u.len e in
            let here = held_fits f r o (part u.start u.len s) in
            let long = length_part u.start u.len s c.within in
            let rest = again (u.start + u.len) (omega (arith, c.onward)) c.within in
            subst (λ (x : FileHeld). Fitting x.held (length s - i)) (sym (held_block s f r o i u.start u.len e))
            (record {
              records = omega (arith, here.records, rest.records, long, c.onward, c.within);
              bytes = omega (arith, here.bytes, rest.bytes, long, c.onward, c.within);
            })
        by_block None e =
            subst (λ (x : FileHeld). Fitting x.held (length s - i)) (sym (held_over s f r o i e))
            (record { records = omega arith; bytes = omega arith })
