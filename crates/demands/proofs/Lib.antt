-- Each case of the shown example computes to true.
pub mod Shown
-- R6: a compile answer is that of the library's view, so the text of inactive cards does not count.
pub mod InactiveText
-- After sets and the set that yanks each of them, the view of a library is the one from before.
pub mod LibraryBack
-- B1 and B2: the set that yanks all sets of any number of runs brings back the view.
pub mod TakenBack
-- B1 and B2 are met by the shown sets, and without any one of their hypotheses they can fail.
pub mod Instances
-- B3: a stream cut ahead of units and run part after part gives the library or the refusal of the whole.
pub mod Cut
-- B3 is met by the shown stream in parts, and without any one of its hypotheses it can fail.
pub mod CutShown
-- A compile file sees of a merged library the first's decks and then the second's, each card as active.
pub mod MergedView
-- One view after another: called decks are found where they were, so the lines of both are written.
pub mod JoinedViews
-- M3: where both libraries compile, the merged one writes the first's lines and then the second's.
pub mod MergedLines
-- M5: a set that only yanks leaves in a merged library the flags that it leaves in the one whose sets it names.
pub mod MergedYankFlags
-- What is yanked in a merged library after one more set decides which cards are active and what is seen.
pub mod TakenViews
-- M5 for a set that yanks sets of the first: it acts by the same numbers there and in the merged library.
pub mod TakenFirst
-- M5 for a set that yanks sets of the second: it acts in the merged library by their numbers raised.
pub mod TakenSecond
-- M5: on images a set that only yanks does in a merged library what it does in the one whose sets it names.
pub mod YankAfterMerge
-- A set that only yanks known sets under a new name is refused for a limit alone, on a merged library too.
pub mod YankAllowed
-- The shown merges hold, M5 is met, and each case without a hypothesis is so, by computation.
pub mod MergeShown
-- Every promise is kept: each field by the theorem that proves it.
pub mod Promised
