-- A record that stands in several pieces, packed one after the other: what a piece leaves of it. Assumes nothing.
use mathlib.Core.Path.{◌≡◌, refl, sym, ap, ◌∙◌, subst}
use mathlib.Core.Bool.{Bool, true, false}
use mathlib.Core.List.{List, ◌++◌}
use Prim.Native.Nat.{ℕ, ◌+◌, ◌≤◌}
use native.Mathlib.Omega.{arith}
use lib.ListN.{length, drop, length-append, drop_of_length-le}
use Rattle.writing.specs.Code.Room.{RoomEach}
use Rattle.writing.specs.Lay.{Sequel}
use Rattle.writer.specs.declared.pack.Flow.{Flow}
use Rattle.writer.specs.Code.Pass.{Job, PassEnd, EndsWithin, Sound}
use Rattle.writer.specs.Code.Packs.{flowed, GoodFlow, Settled, CanPack, DidPack}

-- a flow at the beginning of the next piece
abbrev pub reset : Flow → Flow
reset r = record { pen = r.pen; left = r.left; seg = r.seg; from = 0; begun = r.begun; inside = r.inside; on = true }

-- what follows the record, for which the buffer has room
pub record Following (f b : ℕ) (j : Job) (zs : List ℕ) (s : Flow) (o : List ℕ) : Type 0 where
  pub later : List (List ℕ)
  pub next : Sequel
  pub room : RoomEach f b later
  pub fits : EndsWithin (flowed true f b j s o zs later next) (length o)

-- zs is left of the record, from a flow at the beginning of a piece on
pub record PiecesLeft (lay : Bool) (f b : ℕ) (j : Job) (zs : List ℕ) (s : Flow) (o : List ℕ) : Type 0 where
  pub sound : Sound j s.pen
  pub given : s.pen.short ≡ false
  pub record_length : s.left ≡ length zs
  pub from : s.from ≡ 0
  pub good : GoodFlow f b 0 s
  pub settled : Settled s
  pub ahead : lay ≡ true → Following f b j zs s o

module _ (lay : Bool) (f b : ℕ) (j : Job) (piece zs : List ℕ) (s : Flow) (o : List ℕ)
    (w : PiecesLeft lay f b j (piece ++ zs) s o) where
  all : drop s.from piece ++ zs ≡ piece ++ zs
  all = ap (λ (n : ℕ). drop n piece ++ zs) w.from

  pub pieces_in : CanPack lay f b j piece s o
  pieces_in =
      let long : length (piece ++ zs) ≡ length piece + length zs = length-append piece zs in
      record {
        flowing =
            record {
              sound = w.sound;
              given = w.given;
              good =
                  record {
                    most = w.good.most;
                    from = omega (arith, w.from);
                    here = omega (arith, w.from, w.record_length);
                    enough = w.good.enough;
                    on = w.good.on;
                    seg = w.good.seg;
                    split = w.good.split;
                    sized = w.good.sized;
                    fits = w.good.fits;
                  };
              ahead =
                  λ l.
                  let a = w.ahead l in
                  record {
                    bytes = zs;
                    later = a.later;
                    next = a.next;
                    record_length = omega (arith, w.from, w.record_length);
                    room = a.room;
                    fits =
                        subst (λ (x : List ℕ). EndsWithin (flowed true f b j s o x a.later a.next) (length o)) (sym all)
                        a.fits;
                  };
            };
        settled = w.settled;
      }

  module _ (q : List ℕ) (r : Flow) (x : DidPack lay f b j piece s o q r) (h : r.pen.short ≡ false) where
    rest : drop r.from piece ++ zs ≡ zs
    rest = let e : length piece ≤ r.from = omega (arith, x.over h) in ap (λ (l : List ℕ). l ++ zs) (drop_of_length-le piece e)

    pub pieces_same : (xs : List (List ℕ)) (next : Sequel) → RoomEach f b xs
        → flowed lay f b j (reset r) q zs xs next ≡ flowed lay f b j s o (piece ++ zs) xs next
    unfolding flowed
    pieces_same xs next room =
        let long : length (piece ++ zs) ≡ length piece + length zs = length-append piece zs in
        ap (λ (l : List ℕ). flowed lay f b j r q l xs next) (sym rest)
        ∙ x.goes.same zs xs next (omega (arith, w.from, w.record_length)) room
        ∙ ap (λ (l : List ℕ). flowed lay f b j s o l xs next) all

    pub pieces_out : PiecesLeft lay f b j zs (reset r) q
    pieces_out =
        let long : length (piece ++ zs) ≡ length piece + length zs = length-append piece zs in
        let g = x.goes.good h in
        record {
          sound = x.goes.sound;
          given = h;
          record_length = omega (arith, x.goes.total, x.over h, w.from, w.record_length);
          from = refl;
          good =
              record {
                most = g.most;
                from = omega arith;
                here = omega arith;
                enough = g.enough;
                on = g.on;
                seg = g.seg;
                split = g.split;
                sized = g.sized;
                fits = g.fits;
              };
          settled = x.settled h;
          ahead =
              λ l.
              let a = w.ahead l in
              let e : flowed true f b j (reset r) q zs a.later a.next ≡ flowed true f b j s o (piece ++ zs) a.later a.next
              = subst (λ (t : Bool). flowed t f b j (reset r) q zs a.later a.next
              ≡ flowed t f b j s o (piece ++ zs) a.later a.next) l
              (pieces_same a.later a.next a.room) in
              record {
                later = a.later;
                next = a.next;
                room = a.room;
                fits =
                    subst (EndsWithin (flowed true f b j (reset r) q zs a.later a.next)) (sym x.goes.kept)
                    (subst (λ (u : PassEnd). EndsWithin u (length o)) (sym e) a.fits);
              };
        }
