-- The command line of the program (own), as clap sees it.
use Rattle.std.specs.Prelude.{◌≡◌, ◌⊎◌, ◌≤◌, ◌<◌, ◌||◌, ℕ, Bool, true, false, not, List, [], ◌∷◌, Some, None, codes, drop, length, slice_index, ◌==◌, ◌&&◌, IfSome}
use Rattle.std.specs.List.{list_any}
use Rattle.std.specs.Option.{option_map_or}
use Rattle.std.specs.Str.{bytes_eq}
use Rattle.clap.specs.Lexer.{usize_max}
use Rattle.clap.specs.Walk.{Row, Rule, first_of, all_of}
use Rattle.clap.specs.Simple.{App, new_app, new_rule, with_rule, matches_of}
use Rattle.clap.specs.Faults.{fault_of}
use Rattle.clap.specs.Kinds.{Kinds, IsAmong}
use Rattle.clap.specs.declared.error.kind.ErrorKind.{ErrorKind}
use Rattle.clap.specs.declared.error.kind.ErrorKind.TheVariants.{DisplayHelp}
use Rattle.clap.specs.declared.builder.action.ArgAction.TheVariants.{Set, SetTrue, Append}
use Rattle.jiff_tz.specs.declared.timezone.TimeZone.{TimeZone}
use Rattle.ctf_options.specs.Asked.{IsZone, IsNoZone, IsTrim, IsNoTrim, clock_of, shift_of}
use Rattle.ctf_options.specs.declared.options.Options.{Options}
use Rattle.ctf_options.specs.declared.usage.Usage.{Usage}
use Rattle.ctf_options.specs.declared.usage.Usage.TheVariants.{Help, Bad, NoMemory}

-- an option with one value
abbrev pub option_rule : List ℕ → Rule
option_rule name = record (new_rule name) { long = Some name; action = Some Set }

-- an option without a value
abbrev pub flag_rule : List ℕ → Rule
flag_rule name = record (new_rule name) { long = Some name; action = Some SetTrue }

-- one folder or more
abbrev pub dirs_rule : Rule
dirs_rule = record (new_rule (codes "dirs")) {
  action = Some Append;
  range = Some (record { start_inclusive = 1; end_inclusive = usize_max });
  required = true;
}

-- a command with further arguments
abbrev pub with_rules : App → List Rule → App
with_rules app [] = app
with_rules app (rule ∷ rules) = with_rules (with_rule app rule) rules

-- the command
abbrev pub bt_ctf : App
bt_ctf = with_rules (new_app (codes "bt-ctf")) (
    option_rule (codes "begin")
    ∷ option_rule (codes "end")
    ∷ option_rule (codes "timerange")
    ∷ flag_rule (codes "clock-cycles")
    ∷ flag_rule (codes "clock-date")
    ∷ flag_rule (codes "clock-gmt")
    ∷ flag_rule (codes "clock-seconds")
    ∷ flag_rule (codes "no-delta")
    ∷ option_rule (codes "zone")
    ∷ option_rule (codes "clock-offset")
    ∷ option_rule (codes "clock-offset-ns")
    ∷ dirs_rule
    ∷ [])

-- what clap makes of the words
unfoldable pub matches : List (List ℕ) → List Row
matches words = matches_of bt_ctf words

-- the ways in which clap refuses the words, besides running out of memory: none where it takes them
unfoldable pub faults : List (List ℕ) → Kinds
faults words = fault_of bt_ctf words

-- whether an option without a value is given
abbrev pub is_flag : List ℕ → List Row → Bool
is_flag name rows =
    option_map_or (λ value. bytes_eq value (codes "true")) (first_of name rows) false

-- `--help`, or a word that begins with `-h`
abbrev pub is_help : List ℕ → Bool
is_help word =
    bytes_eq word (codes "--help") || (slice_index word 0 == 45 && slice_index word 1 == 104)

-- the words after the program's name ask for help
abbrev pub asks_help : List (List ℕ) → Bool
asks_help words = list_any is_help (drop 1 words)

-- how many folders there may be
abbrev pub MOST : ℕ
MOST = 1024

-- the folders that matches give
abbrev pub AreDirs : List Row → List (List ℕ) → Type 0
AreDirs rows dirs = (all_of (codes "dirs") rows ≡ Some dirs) × (length dirs ≤ MOST)

-- no folder is given, or there are too many
abbrev pub AreNoDirs : List Row → Type 0
AreNoDirs rows = IfSome (all_of (codes "dirs") rows) (λ dirs. MOST < length dirs)

-- the zone that matches give
abbrev pub IsZoneOf : List Row → TimeZone → Type 0
IsZoneOf rows = IsZone (is_flag (codes "clock-gmt") rows) (first_of (codes "zone") rows)

-- the options that matches give
pub record AreOptions (rows : List Row) (options : Options) : Type 0 where
  pub dirs : AreDirs rows options.dirs
  pub zone : IsZoneOf rows options.style.zone
  pub clock : clock_of (is_flag (codes "clock-cycles") rows) (is_flag (codes "clock-date") rows)
      (is_flag (codes "clock-seconds") rows) ≡ Some options.style.clock
  pub delta : options.style.delta ≡ not (is_flag (codes "no-delta") rows)
  pub trim : IsTrim options.style.zone (first_of (codes "begin") rows) (first_of (codes "end") rows)
      (first_of (codes "timerange") rows) options.trim
  pub shift : shift_of (first_of (codes "clock-offset") rows)
      (first_of (codes "clock-offset-ns") rows)
      ≡ Some options.shift

-- the matches give no options
abbrev pub AreRefused : List Row → Type 0
AreRefused rows = AreNoDirs rows
    ⊎ (IsNoZone (is_flag (codes "clock-gmt") rows) (first_of (codes "zone") rows)
    ⊎ ((clock_of (is_flag (codes "clock-cycles") rows) (is_flag (codes "clock-date") rows)
    (is_flag (codes "clock-seconds") rows) ≡ None)
    ⊎ (((zone : TimeZone) × IsZoneOf rows zone × IsNoTrim zone (first_of (codes "begin") rows)
    (first_of (codes "end") rows) (first_of (codes "timerange") rows))
    ⊎ (shift_of (first_of (codes "clock-offset") rows) (first_of (codes "clock-offset-ns") rows)
    ≡ None))))

-- clap refuses the words in this way, which is no call for help: where clap takes them for one, none of them is
abbrev pub IsNoHelp : ErrorKind → List (List ℕ) → Type 0
IsNoHelp kind words = kind ≡ DisplayHelp → asks_help words ≡ false

-- clap refuses the words in some way that is no call for help
abbrev pub ClapRefuses : List (List ℕ) → Type 0
ClapRefuses words = (kind : ErrorKind) × IsAmong kind (faults words) × IsNoHelp kind words

-- clap takes the words for a call for help, and one of them is
abbrev pub AsksHelp : List (List ℕ) → Type 0
AsksHelp words = IsAmong DisplayHelp (faults words) × (asks_help words ≡ true)

-- why clap refused words
abbrev pub IsClapRefusal : List (List ℕ) → Usage → Type 0
IsClapRefusal words Help = AsksHelp words
IsClapRefusal words Bad = ClapRefuses words
IsClapRefusal words NoMemory = Unit {0}

-- the options that words give: clap takes them, and its matches give the options
abbrev pub GivesOptions : List (List ℕ) → Options → Type 0
GivesOptions words options = (faults words ≡ []) × AreOptions (matches words) options

-- why words were refused: by clap, or clap takes them and its matches give no options
abbrev pub IsRefusal : List (List ℕ) → Usage → Type 0
IsRefusal words Help = AsksHelp words
IsRefusal words Bad = ClapRefuses words ⊎ ((faults words ≡ []) × AreRefused (matches words))
IsRefusal words NoMemory = Unit {0}
