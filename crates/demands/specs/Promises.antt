-- PROMISE. Everything that the customer was promised, in the order of the three demands, in one record. Read this first; each field's type is a statement
-- with its own words in the file that the `use` lines name.
--   Promises
use Rattle.words.specs.TextTrip.{SaysWritten, WrittenIsText, WrittenFits, WrittenSays, LetterOfCode, CodeOfLetter}
use Rattle.words.specs.NameTrip.{NameOfWord, WordOfItsName, ReadOfWritten}
use Rattle.words_packing.specs.PackTrip.{UnpackPacked, PackUnpacked, PackedAccepted, UnpackedAccepted, PackedLength, UnpackedLength, WordsEights, EightsWords}
use Rattle.library.specs.Exact.{CheckExact, EncodeOnce, YankedSolves, YankedUnique}
use Rattle.run_meaning.specs.Kept.{R4, R5, RunIdle}
use Rattle.library.specs.WordForm.{FormByWord, FormMet, FormSpare}
use Rattle.demands.specs.Demands.{LibraryBack, B1, B2, R6}
use Rattle.demands.specs.Cut.{B3}
use Rattle.demands.specs.Shown.{AllHold}
use Rattle.demands.specs.Instances.{ShownBack, NoneSpare}
use Rattle.demands.specs.CutShown.{ShownCut, NoneSpareCut, SizeNeeded}
use Rattle.merge_meaning.specs.Merged.{MergeSound, MergedPasses, MergeLength, MergeLimits, YankedFirst, YankedSecond, MergedImage, MergeFresh, MergingFresh}
use Rattle.demands.specs.MergedFile.{FileMerged, FileInFull}
use Rattle.demands.specs.MergedYank.{YankFirst, YankSecond, FileFirst, FileSecond, AllowedFirst, AllowedSecond}
use Rattle.demands.specs.MergeShown.{MergesHold, MergeSpare, NumbersSpare, FileSpare, YankMet, YankSpare}

pub record Promises : Type 0 where
  -- DEMAND 2: line to card and back, words to packed bytes and back, nothing is gained or lost.
  -- R1: the words of a line say the line without its trailing blanks; for 0 to 80 columns they are accepted, and at most 16; accepted words are
  -- the words of the line that they say.
  pub says-written : SaysWritten
  pub written-is-text : WrittenIsText
  pub written-fits : WrittenFits
  pub written-says : WrittenSays
  -- The chart has each byte once; a name's word spells the name and a name spells its word; a number is read back from its digits.
  pub letter-of-code : LetterOfCode
  pub code-of-letter : CodeOfLetter
  pub name-of-word : NameOfWord
  pub word-of-name : WordOfItsName
  pub read-of-written : ReadOfWritten
  -- R2: words packed and unpacked are the same words; accepted bytes unpacked and packed are the same bytes; both are accepted again; n words take
  -- seven and a half bytes each, rounded up; and so for words of eight bytes.
  pub unpack-packed : UnpackPacked
  pub pack-unpacked : PackUnpacked
  pub packed-accepted : PackedAccepted
  pub unpacked-accepted : UnpackedAccepted
  pub packed-length : PackedLength
  pub unpacked-length : UnpackedLength
  pub words-eights : WordsEights
  pub eights-words : EightsWords
  -- R3: the check accepts exactly the images of sound libraries, and no two sound libraries have one image; in each the yank rule has exactly one
  -- solution.
  pub check-exact : CheckExact
  pub encode-once : EncodeOnce
  -- Row 5 of the check, word by word; a card of two words meets it, and without either of its hypotheses the two can differ.
  pub form-by-word : FormByWord
  pub form-met : FormMet
  pub form-spare : FormSpare
  pub yanked-solves : YankedSolves
  pub yanked-unique : YankedUnique
  -- R4: the result of an accepted run is sound, passes the check and fits the space.
  pub run-passes : R4
  -- R5: an accepted run keeps every card and adds those of its lines; without units it writes the image that it read.
  pub run-keeps : R5
  pub run-idle : RunIdle
  -- R6: accepted libraries that are the same but for lines of cards that are not active have the same compile answers.
  pub inactive-text : R6
  -- R7: the shown libraries, runs of blanks and packed words, the shown compile file, and a dozen more (RULES, "Shown example").
  pub all_hold : AllHold
  -- DEMAND 3: what was corrected can be taken back.
  -- B1: correction sets, then one set that only yanks each of them: the full compile answer is the one from before.
  pub taken_back : B1
  -- the same of a sound library and the lines of streams.
  pub library-back : LibraryBack
  -- B2: that set yanked in turn: the corrected compile answer is back.
  pub restored : B2
  -- B3: a stream cut ahead of units and run part after part gives what the whole gives.
  pub cut_parts : B3
  -- B1 to B3 speak of the shown stream, and without any one of their hypotheses the answer can be another.
  pub shown-back : ShownBack
  pub none-spare : NoneSpare
  pub shown-cut : ShownCut
  pub none-spare-cut : NoneSpareCut
  pub size-needed : SizeNeeded
  -- TWO LIBRARIES MERGED (RULES, "The merge").
  -- M1: two sound libraries without a common name and within the limits give a sound one; the image of an accepted merge passes the check and fits the space, so that all
  -- of the above holds of it as of any other. Its words are those of both but for three, and its limits are those of the summed counts.
  pub merge-sound : MergeSound
  pub merged-passes : MergedPasses
  pub merge-length : MergeLength
  pub merge-limits : MergeLimits
  -- M2: what is yanked is what was; the merged image, word for word: of the second's cards the numbers in history bytes are raised, and nothing else changes.
  pub yanked-first : YankedFirst
  pub yanked-second : YankedSecond
  pub image-merged : MergedImage
  -- M3: where both compile, the merged file is the first's followed by the second's with the calls of both, unless 43 or 44 is met.
  pub file-merged : FileMerged
  pub file-in-full : FileInFull
  -- M4: the fresh library on either side gives the other one back.
  pub merge-fresh : MergeFresh
  pub merging-fresh : MergingFresh
  -- M5: a set that only yanks sets of one of the two does in the merged library what it does in that one, and nothing to the other's cards or lines.
  pub yank-first : YankFirst
  pub yank-second : YankSecond
  pub file-first : FileFirst
  pub file-second : FileSecond
  -- and it is accepted there, but for 31 and 32, wherever it is accepted on that one and the other lacks its name.
  pub allowed-first : AllowedFirst
  pub allowed-second : AllowedSecond
  -- M1 to M5 are met by small merges, and without any one of their hypotheses the answer can be another.
  pub merges-hold : MergesHold
  pub merge-spare : MergeSpare
  pub numbers-spare : NumbersSpare
  pub file-spare : FileSpare
  pub yank-met : YankMet
  pub yank-spare : YankSpare
