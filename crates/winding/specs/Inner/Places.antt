-- Points as the functions hold them, and as the definitions have them.
use Rattle.std.specs.Prelude.{Float}
use Rattle.winding.specs.declared.point.Vector.{Vector}
use Rattle.winding.specs.Points.{Point, Plane, Space}

-- a pair of coordinates is a point in the plane
abbrev pub in_plane : Float × Float → Point
in_plane p = Plane p.0 p.1

-- three coordinates are a point in space
abbrev pub in_space : Vector → Point
in_space v = Space v.x v.y v.z
