-- What the program writes for each answer of unpacking and compiling. Assumes nothing.
--   the file      walk-fits, compile-done
--   refusals      compile-library, compile-stopped
--   unpacking     unpacked-front, unpack-done, unpack-refused
--   the whole     program-over, program-within
use Prim.Native.Nat.{ℕ, ◌*◌, ◌/◌, ◌≤◌, ◌<◌}
use native.Mathlib.Omega.{arith}
use mathlib.Core.Path.{◌≡◌, refl, sym, ap, ◌∙◌, subst}
use mathlib.Core.Bool.{true}
use mathlib.Core.List.{List, [], ◌++◌}
use borrow.Author.Tests.{lt-ltb, le-ltb}
use lib.ListN.{length, take, drop, length-append}
use lib.Seq.{take_at}
use Rattle.words.specs.Names.{numeral}
use Rattle.words_packing.specs.Pack.{unpacked, unpacking, space_after, unpack_into, packing_number}
use Rattle.words_packing.specs.declared.PackingRefused.{PackingRefused}
use Rattle.words_packing.proofs.PackAnswer.{accepted}
use Rattle.words_packing.proofs.PackTrip.{unpacked-length}
use Rattle.library.specs.Check.{Checking, good, bad, check, fault_number}
use Rattle.std.specs.Prelude.{Result, Ok, Err}
use Rattle.compile_walk.specs.View.{view}
use Rattle.compile_walk.specs.Walk.{Walk, walked, halted}
use Rattle.compile_walk.specs.Steps.{WalkState, decks_of}
use Rattle.compile.specs.Compile.{compile_view, Compiling, of_walk, of_library, compile_checked, compiling, compiled, compile_into, stop_number, compiled_number, refused_line, card_place, program_of, after_unpacking, program}
use Rattle.compile_walk.specs.declared.Stop.{Stop}
use Rattle.library.specs.declared.Refusal.{Refusal}
use Rattle.compile_walk.specs.declared.Counts.{Counts}
use Rattle.compile_walk.specs.declared.Halt.{Halt}
use Rattle.compile.specs.declared.CompileRefused.{CompileRefused}
use Rattle.compile.specs.declared.CompileRefused.TheVariants.{Library as OfLibrary, Card as OfCard}
use Rattle.compile.proofs.WalkAsDefined.{Fits, Follows, decks-follows}
use Rattle.compile.proofs.ImageView.{view-plain}
use Rattle.compile_file.specs.Written.{Wrote}

-- THE FILE: every line of it has 91 bytes, and all fit the space
module _ (image space : List ℕ) where
  abbrev it : Compiling
  it = compiling image (length space)

  abbrev Sized : Compiling → Type 0
  Sized (of_walk (walked ls n)) = Fits (length space / 91) ls
  Sized (of_walk (halted k o s)) = Unit {0}
  Sized (of_library f p) = Unit {0}

  walk-fits : Sized it
  unfolding compiling
  walk-fits = go (check image) refl
    where
      by : (w : Walk) (s : WalkState) → Follows space true w s → Sized (of_walk w)
      by (walked ls n) s f = f.0
      by (halted k o q) s f = tt

      go : (c : Checking) → check image ≡ c → Sized (compile_checked (length space) c)
      go (good l) e = by (compile_view (length space) (view l)) (decks_of true (view l) (view l) 0 0 space) (decks-follows space true (view l) (view-plain image l e) (view l) (view-plain image l e))
      go (bad f p) e = tt

  -- x is the space after it
  module _ (x : List ℕ) (long : length space ≡ 65520) (q : x ≡ compile_into it space) where
    pub compile-done : (n : Counts) → Ok n ≡ compiled it → (n.lines * 91 ≤ 65520) × Wrote (program_of (compiling image 65520)) (n.lines * 91) space x
    compile-done n e = subst (λ (m : ℕ). (n.lines * 91 ≤ m) × Wrote (program_of (compiling image m)) (n.lines * 91) space x) long (go it walk-fits e q)
      where
        lines_of : Result Counts CompileRefused → ℕ
        lines_of (Ok k) = k.lines
        lines_of (Err k) = 0

        go : (c : Compiling) → Sized c → Ok n ≡ compiled c → x ≡ compile_into c space → (n.lines * 91 ≤ length space) × Wrote (program_of c) (n.lines * 91) space x
        go (of_walk (walked ls m)) f h y = let k : n.lines ≡ length ls = ap lines_of h in (omega (arith, f.long, f.few), (omega (arith, f.long), y))
        go (of_walk (halted k o s)) f h y = absurd (let z : ◌≡◌ {A = ℕ} 0 1 = cc in omega arith)
        go (of_library f p) g h y = absurd (let z : ◌≡◌ {A = ℕ} 0 1 = cc in omega arith)

    -- REFUSALS: the space is as it was, and y is what it is after the line
    module _ (number r : ℕ) (y : List ℕ) where
      refused : (k : ℕ) (place : List ℕ) → number ≡ k → x ≡ space → refused_line k place ≡ program_of it → Wrote (refused_line number place) r x y → Wrote (program_of (compiling image 65520)) r space y
      refused k place told same is w =
          subst (λ (m : ℕ). Wrote (program_of (compiling image m)) r space y) long
          (subst (λ (t : List ℕ). Wrote t r space y) (ap (λ (n : ℕ). refused_line n place) told ∙ is) (subst (λ (b : List ℕ). Wrote (refused_line number place) r b y) same w))

      -- the line of an answer
      abbrev line_of : Result Counts CompileRefused → List ℕ
      line_of (Ok k) = []
      line_of (Err (OfLibrary k)) = refused_line (fault_number k.fault) (numeral k.place)
      line_of (Err (OfCard k)) = refused_line (stop_number k.stop) (card_place k.owner k.seq)

      pub compile-library : (k : Refusal) → Err (OfLibrary k) ≡ compiled it → number ≡ fault_number k.fault → Wrote (refused_line number (numeral k.place)) r x y → Wrote (program_of (compiling image 65520)) r space y
      compile-library k e told w = let z = go it e q in refused (fault_number k.fault) (numeral k.place) told z.0 z.1 w
        where
          go : (c : Compiling) → Err (OfLibrary k) ≡ compiled c → x ≡ compile_into c space → (x ≡ space) × (refused_line (fault_number k.fault) (numeral k.place) ≡ program_of c)
          go (of_walk (walked ls m)) h u = absurd (let z : ◌≡◌ {A = ℕ} 0 1 = cc in omega arith)
          go (of_walk (halted j o s)) h u = absurd (let z : ◌≡◌ {A = ℕ} 0 1 = cc in omega arith)
          go (of_library g m) h u = (u, ap line_of h)

      pub compile-stopped : (k : Halt) → Err (OfCard k) ≡ compiled it → number ≡ stop_number k.stop → Wrote (refused_line number (card_place k.owner k.seq)) r x y → Wrote (program_of (compiling image 65520)) r space y
      compile-stopped k e told w = let z = go it e q in refused (stop_number k.stop) (card_place k.owner k.seq) told z.0 z.1 w
        where
          go : (c : Compiling) → Err (OfCard k) ≡ compiled c → x ≡ compile_into c space → (x ≡ space) × (refused_line (stop_number k.stop) (card_place k.owner k.seq) ≡ program_of c)
          go (of_walk (walked ls m)) h u = absurd (let z : ◌≡◌ {A = ℕ} 0 1 = cc in omega arith)
          go (of_walk (halted j b t)) h u = (u, ap line_of h)
          go (of_library g m) h u = absurd (let z : ◌≡◌ {A = ℕ} 0 1 = cc in omega arith)

-- UNPACKING: x is the space of the words after it
module _ (input words x : List ℕ) (long : length words ≡ 4096) (q : x ≡ unpack_into input words) where
  -- the words stand at the front
  pub unpacked-front : (n : ℕ) → Ok n ≡ unpacking input (length words) → (n ≤ length x) × (take n x ≡ unpacked input)
  unfolding space_after
  unpacked-front n e =
      let k = accepted input (length words) n (sym e) in
      let l : length (unpacked input) ≡ n = unpacked-length input k.right ∙ sym k.count in
      let y : x ≡ unpacked input ++ drop n words = q ∙ ap (λ (p : Result ℕ PackingRefused). space_after p (unpacked input) words) (sym e) in
      (omega (arith, ap length y, length-append (unpacked input) (drop n words)), ap (take n) y ∙ take_at (unpacked input) (drop n words) n l)

  module _ (r : ℕ) (before after : List ℕ) where
    answered : (p : Result ℕ PackingRefused) → p ≡ unpacking input (length words) → Wrote (after_unpacking p (unpacked input)) r before after → Wrote (after_unpacking (unpacking input 4096) (unpacked input)) r before after
    answered p e w = subst (λ (t : List ℕ). Wrote t r before after) (ap (λ (a : Result ℕ PackingRefused). after_unpacking a (unpacked input)) (e ∙ ap (unpacking input) long)) w

    pub unpack-done : (n : ℕ) → Ok n ≡ unpacking input (length words) → Wrote (program_of (compiling (take n x) 65520)) r before after → Wrote (after_unpacking (unpacking input 4096) (unpacked input)) r before after
    unpack-done n e w = answered (Ok n) e (subst (λ (ws : List ℕ). Wrote (program_of (compiling ws 65520)) r before after) (unpacked-front n e).1 w)

    pub unpack-refused : (k : PackingRefused) (number : ℕ) → Err k ≡ unpacking input (length words) → number ≡ packing_number (Err k) → Wrote (refused_line number (numeral 0)) r before after → Wrote (after_unpacking (unpacking input 4096) (unpacked input)) r before after
    unpack-refused k number e told w = answered (Err k) e (subst (λ (i : ℕ). Wrote (refused_line i (numeral 0)) r before after) told w)

-- THE WHOLE: 52 is ahead of 50
module _ (input : List ℕ) (r : ℕ) (before after : List ℕ) where
  pub program-over : 30720 < length input → Wrote (refused_line 52 (numeral 0)) r before after → Wrote (program input) r before after
  unfolding program
  program-over h w = rw (lt-ltb 30720 (length input) h) w

  pub program-within : length input ≤ 30720 → Wrote (after_unpacking (unpacking input 4096) (unpacked input)) r before after → Wrote (program input) r before after
  unfolding program
  program-within h w = rw (le-ltb 30720 (length input) h) w
