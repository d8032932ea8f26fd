-- Every promise is kept: each field by the theorem that proves it.
use Rattle.words.proofs.TextTrip.{says-written, written-is-text, written-fits, written-says, letter-of-code, code-of-letter}
use Rattle.words.proofs.NameTrip.{name-of-word, word-of-its-name, read-of-written}
use Rattle.words_packing.proofs.PackTrip.{unpack-packed, pack-unpacked, packed-accepted, unpacked-accepted, packed-length, unpacked-length, words-eights, eights-words}
use Rattle.library.proofs.CheckExact.{check-exact, encode-once}
use Rattle.library.proofs.FormByWord.{form-words, form-met, form-spare}
use Rattle.library.proofs.YankedUnique.{yanked-solves, yanked-unique}
use Rattle.run_meaning.proofs.Kept.{run-passes, run-keeps, run-idle}
use Rattle.demands.specs.Promises.{Promises}
use Rattle.demands.proofs.InactiveText.{inactive-text}
use Rattle.demands.proofs.Shown.{all_hold}
use Rattle.demands.proofs.LibraryBack.{library-back}
use Rattle.demands.proofs.TakenBack.{taken_back, restored}
use Rattle.demands.proofs.Cut.{cut_parts}
use Rattle.demands.proofs.Instances.{shown-back, none-spare}
use Rattle.demands.proofs.CutShown.{shown-cut, none-spare-cut, size-needed}
use Rattle.merge_meaning.proofs.MergedSound.{merge-sound}
use Rattle.merge_meaning.proofs.MergedLimits.{merge-length, merge-limits}
use Rattle.merge_meaning.proofs.AcceptedMerge.{merged-passes, merge-fresh, merging-fresh}
use Rattle.merge_meaning.proofs.MergedFlags.{yanked-first, yanked-second}
use Rattle.merge_meaning.proofs.MergedImage.{image-merged}
use Rattle.demands.proofs.MergedLines.{file-merged, file-in-full}
use Rattle.demands.proofs.YankAfterMerge.{yank-first, yank-second, file-first, file-second}
use Rattle.demands.proofs.YankAllowed.{allowed-first, allowed-second}
use Rattle.demands.proofs.MergeShown.{merges-hold, merge-spare, numbers-spare, file-spare, yank-met, yank-spare}

pub promised : Promises
promised =
    record {
      says-written = says-written;
      written-is-text = written-is-text;
      written-fits = written-fits;
      written-says = written-says;
      letter-of-code = letter-of-code;
      code-of-letter = code-of-letter;
      name-of-word = name-of-word;
      word-of-name = word-of-its-name;
      read-of-written = read-of-written;
      unpack-packed = unpack-packed;
      pack-unpacked = pack-unpacked;
      packed-accepted = packed-accepted;
      unpacked-accepted = unpacked-accepted;
      packed-length = packed-length;
      unpacked-length = unpacked-length;
      words-eights = words-eights;
      eights-words = eights-words;
      check-exact = check-exact;
      encode-once = encode-once;
      form-by-word = form-words;
      form-met = form-met;
      form-spare = form-spare;
      yanked-solves = yanked-solves;
      yanked-unique = yanked-unique;
      run-passes = run-passes;
      run-keeps = run-keeps;
      run-idle = run-idle;
      inactive-text = inactive-text;
      all_hold = all_hold;
      taken_back = taken_back;
      library-back = library-back;
      restored = restored;
      cut_parts = cut_parts;
      shown-back = shown-back;
      none-spare = none-spare;
      shown-cut = shown-cut;
      none-spare-cut = none-spare-cut;
      size-needed = size-needed;
      merge-sound = merge-sound;
      merged-passes = merged-passes;
      merge-length = merge-length;
      merge-limits = merge-limits;
      yanked-first = yanked-first;
      yanked-second = yanked-second;
      image-merged = image-merged;
      file-merged = file-merged;
      file-in-full = file-in-full;
      merge-fresh = merge-fresh;
      merging-fresh = merging-fresh;
      yank-first = yank-first;
      yank-second = yank-second;
      file-first = file-first;
      file-second = file-second;
      allowed-first = allowed-first;
      allowed-second = allowed-second;
      merges-hold = merges-hold;
      merge-spare = merge-spare;
      numbers-spare = numbers-spare;
      file-spare = file-spare;
      yank-met = yank-met;
      yank-spare = yank-spare;
    }
