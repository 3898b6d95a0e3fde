use Rattle.std.proofs.Common.{◌≡◌, map, drop}
use Rattle.khal_ports.specs.Finds.{file_named}
use Rattle.khal_ports.proofs.memory_zones.bytes_of.Given as goal

-- the name is not among those before
abbrev pub invariant-loop-file : goal.invariant-loop-file
invariant-loop-file l =
    file_named (map (λ file. (file.name.items, file.bytes.items)) (drop l.file-index l.files)) l.name
    ≡ file_named (map (λ file. (file.name.items, file.bytes.items)) l.files) l.name
