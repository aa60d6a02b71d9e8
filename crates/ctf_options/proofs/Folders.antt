-- The folders that matches give.
use Rattle.std.proofs.Common.{◌≡◌, ◌<◌, ◌≤◌, ℕ, List, Some, None, sym, map, length, codes}
use Rattle.std.proofs.lemmas.List.{length-map}
use Rattle.std.specs.Borrow.{Bor}
use Rattle.clap.specs.Walk.{Row, all_of}
use Rattle.ctf_options.specs.Command.{AreDirs, AreNoDirs}

pub no_dirs : (rows : List Row) → None ≡ all_of (codes "dirs") rows → AreNoDirs rows
no_dirs rows e = rw (← e) tt

pub many_dirs : (rows : List Row) (dirs : List (Bor (List ℕ))) → Some (map (λ text. text.now) dirs) ≡ all_of (codes "dirs") rows → 1024 < length dirs → AreNoDirs rows
many_dirs rows dirs e many = rw (← e) (rw length-map many)

pub few_dirs : (rows : List Row) (dirs : List (Bor (List ℕ))) (copies : List (List ℕ)) → Some (map (λ text. text.now) dirs) ≡ all_of (codes "dirs") rows
    → copies ≡ map (λ text. text.now) dirs → length dirs ≤ 1024 → AreDirs rows copies
few_dirs rows dirs copies e same few = rw same (sym e, rw length-map few)
