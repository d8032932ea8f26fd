-- The further words of a card's history, settled, are those under the new flags, and say what its bytes say.
use Rattle.std.specs.Prelude.{if◌then◌else◌}
use Prim.Native.Nat.{ℕ, suc, ◌+◌, ◌*◌, ◌^◌, ◌≤◌, ◌<◌}
use native.Mathlib.Omega.{arith}
use mathlib.Core.Path.{◌≡◌, refl, ap, ◌∙◌}
use mathlib.Core.Bool.{Bool, true, false}
use mathlib.Core.List.{List, [], ◌∷◌, ◌++◌, map}
use lib.ListN.{length}
use Rattle.library.specs.Each.{Each}
use Rattle.library.specs.Library.{Byte}
use Rattle.library.specs.Yanks.{last_says}
use Rattle.library.specs.Image.{bit, byte_bits, further_words}
use Rattle.library_yanks_bits.specs.SettledBits.{fix_byte, fix_word, say_byte, say_word, further_bits, further_says}
use Rattle.library.specs.CardWords.{further_len}
use Rattle.library_yanks_bits.proofs.Fixing.{say-none}
use Rattle.library_yanks_bits.proofs.Histories.{last-bits, last_says_lem, last-len, more-bits, more-says, more-len}
use Rattle.run.specs.CardHeads.{FitsByte}
use Rattle.run.proofs.Heads.{bits_below}
use Rattle.run.proofs.Fixing.{word_of, fix_is, fix-zero, fix-below, say-is, word-fixed, word-said}

module _ (new yk : ℕ → Bool) (zero-out : new 0 ≡ false) where
  -- a word of three bytes, settled
  module _ (e : Bool) (p q r p' q' r' : ℕ) (lp : p < 2 ^ 18) (lq : q < 2 ^ 18) (lr : r < 2 ^ 18)
      (fp : fix_byte new p ≡ p') (fq : fix_byte new q ≡ q') (fr : fix_byte new r ≡ r') (x : ℕ) (is : x ≡ word_of e p q r) where
    bytes : fix_word new x ≡ word_of e p' q' r'
    bytes = ap (fix_word new) is ∙ word-fixed p q r lp lq lr new e ∙ (λ j. word_of e (fp j) (fq j) (fr j))

    says : (so : ℕ) → say_word so (fix_word new x) ≡ say_byte (say_byte (say_byte so p') q') r'
    says so =
        ap (λ (k : ℕ). say_word so (fix_word new k)) is ∙ ap (say_word so) (word-fixed p q r lp lq lr new e)
        ∙ word-said (fix_byte new p) (fix_byte new q) (fix_byte new r) (fix-below new p) (fix-below new q) (fix-below new r) so e
        ∙ (λ j. say_byte (say_byte (say_byte so (fp j)) (fq j)) (fr j))

  below : (x : Byte) → FitsByte x → byte_bits yk x < 2 ^ 18
  below x f = bits_below yk x f

  anew : (x : Byte) → FitsByte x → fix_byte new (byte_bits yk x) ≡ byte_bits new x
  anew x f = fix_is yk new x f

  zeroed : fix_byte new 0 ≡ 0
  zeroed = fix-zero new zero-out

  abbrev after : Bool → Byte → Bool
  after now x = (if new x.number then now else x.activating)

  heard : (now : Bool) (d e g : Byte) → FitsByte d → FitsByte e → FitsByte g
      → say_byte (say_byte (say_byte (bit now 0) (byte_bits new d)) (byte_bits new e)) (byte_bits new g) ≡ bit (after (after (after now d) e) g) 0
  heard now d e g fd fe fg =
      ap (λ (k : ℕ). say_byte (say_byte k (byte_bits new e)) (byte_bits new g)) (say-is new now d fd)
      ∙ ap (λ (k : ℕ). say_byte k (byte_bits new g)) (say-is new (after now d) e fe) ∙ say-is new (after (after now d) e) g fg

  module _ (rest : List ℕ) where
    abbrev old : List Byte → List ℕ
    old bs = further_words (map (byte_bits yk) bs) ++ rest

    pub record Told (now : Bool) (d : Byte) (bs : List Byte) : Type 0 where
      pub words : further_bits new (old (d ∷ bs)) ≡ further_words (map (byte_bits new) (d ∷ bs)) ++ rest
      pub says : further_says new (bit now 0) (old (d ∷ bs)) ≡ bit (last_says new now (d ∷ bs)) 0
      pub long : further_len (old (d ∷ bs)) ≡ length (further_words (map (byte_bits new) (d ∷ bs)))

    pub told : (now : Bool) (d : Byte) (bs : List Byte) → Each FitsByte (d ∷ bs) → Told now d bs
    told now d [] f =
        let a : ℕ = byte_bits yk d in
        let b : ℕ = byte_bits new d in
        let la : a < 2 ^ 18 = below d f.0 in
        let lz : 0 < 2 ^ 18 = omega arith in
        let x : ℕ = 2 ^ 59 + a * 2 ^ 36 in
        let is : x ≡ word_of true a 0 0 = omega arith in
        let end : 2 ^ 59 ≤ x = omega arith in
        let y : word_of true b 0 0 ≡ 2 ^ 59 + b * 2 ^ 36 = omega arith in
        let now0 : ℕ = bit now 0 in
        record {
          words = last-bits new x rest end ∙ (λ j. (bytes true a 0 0 b 0 0 la lz lz (anew d f.0) zeroed zeroed x is ∙ y) j ∷ rest);
          says = last_says_lem new x rest now0 end ∙ says true a 0 0 b 0 0 la lz lz (anew d f.0) zeroed zeroed x is now0
              ∙ say-none (say_byte (say_byte now0 b) 0) 0 refl ∙ say-none (say_byte now0 b) 0 refl ∙ say-is new now d f.0;
          long = last-len x rest end;
        }
    told now d (e ∷ []) f =
        let a : ℕ = byte_bits yk d in
        let b : ℕ = byte_bits new d in
        let a2 : ℕ = byte_bits yk e in
        let b2 : ℕ = byte_bits new e in
        let la : a < 2 ^ 18 = below d f.0 in
        let la2 : a2 < 2 ^ 18 = below e f.1.0 in
        let lz : 0 < 2 ^ 18 = omega arith in
        let x : ℕ = 2 ^ 59 + a * 2 ^ 36 + a2 * 2 ^ 18 in
        let is : x ≡ word_of true a a2 0 = omega arith in
        let end : 2 ^ 59 ≤ x = omega arith in
        let y : word_of true b b2 0 ≡ 2 ^ 59 + b * 2 ^ 36 + b2 * 2 ^ 18 = omega arith in
        let now0 : ℕ = bit now 0 in
        record {
          words = last-bits new x rest end ∙ (λ j. (bytes true a a2 0 b b2 0 la la2 lz (anew d f.0) (anew e f.1.0) zeroed x is ∙ y) j ∷ rest);
          says = last_says_lem new x rest now0 end ∙ says true a a2 0 b b2 0 la la2 lz (anew d f.0) (anew e f.1.0) zeroed x is now0
              ∙ say-none (say_byte (say_byte now0 b) b2) 0 refl ∙ ap (λ (k : ℕ). say_byte k b2) (say-is new now d f.0)
              ∙ say-is new (after now d) e f.1.0;
          long = last-len x rest end;
        }
    told now d (e ∷ g ∷ []) f =
        let x : ℕ = word_of true (byte_bits yk d) (byte_bits yk e) (byte_bits yk g) in
        let end : 2 ^ 59 ≤ x = omega arith in
        let w =
        bytes true (byte_bits yk d) (byte_bits yk e) (byte_bits yk g) (byte_bits new d) (byte_bits new e) (byte_bits new g)
        (below d f.0) (below e f.1.0) (below g f.1.1.0) (anew d f.0) (anew e f.1.0) (anew g f.1.1.0) x refl in
        let s =
        says true (byte_bits yk d) (byte_bits yk e) (byte_bits yk g) (byte_bits new d) (byte_bits new e) (byte_bits new g)
        (below d f.0) (below e f.1.0) (below g f.1.1.0) (anew d f.0) (anew e f.1.0) (anew g f.1.1.0) x refl (bit now 0) in
        record {
          words = last-bits new x rest end ∙ (λ j. w j ∷ rest);
          says = last_says_lem new x rest (bit now 0) end ∙ s ∙ heard now d e g f.0 f.1.0 f.1.1.0;
          long = last-len x rest end;
        }
    told now d (e ∷ g ∷ h ∷ r) f =
        let la : byte_bits yk d < 2 ^ 18 = below d f.0 in
        let lb : byte_bits yk e < 2 ^ 18 = below e f.1.0 in
        let lc : byte_bits yk g < 2 ^ 18 = below g f.1.1.0 in
        let x : ℕ = word_of false (byte_bits yk d) (byte_bits yk e) (byte_bits yk g) in
        let more : x < 2 ^ 59 = omega arith in
        let w =
        bytes false (byte_bits yk d) (byte_bits yk e) (byte_bits yk g) (byte_bits new d) (byte_bits new e) (byte_bits new g)
        la lb lc (anew d f.0) (anew e f.1.0) (anew g f.1.1.0) x refl in
        let s =
        says false (byte_bits yk d) (byte_bits yk e) (byte_bits yk g) (byte_bits new d) (byte_bits new e) (byte_bits new g)
        la lb lc (anew d f.0) (anew e f.1.0) (anew g f.1.1.0) x refl (bit now 0) in
        let go = told (after (after (after now d) e) g) h r f.1.1.1 in
        record {
          words = more-bits new x (old (h ∷ r)) more ∙ (λ j. w j ∷ go.words j);
          says = more-says new x (old (h ∷ r)) (bit now 0) more
              ∙ ap (λ (k : ℕ). further_says new k (old (h ∷ r))) (s ∙ heard now d e g f.0 f.1.0 f.1.1.0) ∙ go.says;
          long = more-len x (old (h ∷ r)) more ∙ ap suc go.long;
        }
