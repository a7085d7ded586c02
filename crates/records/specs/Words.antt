-- The words of a plan: byte by byte, in small letters.
use Rattle.std.specs.Prelude.{ℕ, cond, List, Some, None, codes, Option}
use Rattle.std.specs.Str.{bytes_eq}
use Rattle.records.specs.declared.reading.words.Word.{Word}
use Rattle.records.specs.declared.reading.words.Word.TheVariants.{Net, Signal, Switch, Exit, Link, Event}
use Rattle.records.specs.declared.reading.words.Family.{Family}
use Rattle.records.specs.declared.reading.words.Family.TheVariants as family
use Rattle.records.specs.declared.reading.words.Store.{Store}
use Rattle.records.specs.declared.reading.words.Store.TheVariants.{Ring, Pool}

-- The kind of a record.
abbrev pub word_of : List ℕ → Option Word
word_of bs =
    cond (bytes_eq bs (codes "net")) (Some Net)
    (cond (bytes_eq bs (codes "signal")) (Some Signal)
    (cond (bytes_eq bs (codes "switch")) (Some Switch)
    (cond (bytes_eq bs (codes "exit")) (Some Exit)
    (cond (bytes_eq bs (codes "link")) (Some Link)
    (cond (bytes_eq bs (codes "event")) (Some Event) None)))))

-- The family of a plan.
abbrev pub family_of : List ℕ → Option Family
family_of bs =
    cond (bytes_eq bs (codes "road")) (Some family.Road)
    (cond (bytes_eq bs (codes "switch")) (Some family.Switch) None)

-- The store of a plan's links.
abbrev pub store_of : List ℕ → Option Store
store_of bs =
    cond (bytes_eq bs (codes "ring")) (Some Ring)
    (cond (bytes_eq bs (codes "pool")) (Some Pool) None)
